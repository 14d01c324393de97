use Rattle.mr_base.specs.declared.settings.Settings.{Settings}

-- The settings where a `cluster` line names none, in milliseconds. (This project's profile.)
abbrev pub the_standard_settings : Settings
the_standard_settings = record { max_offset = 500; lease = 6000; lag = 3000; lead = 800; expire = 5000 }
