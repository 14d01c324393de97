use Rattle.std.proofs.Common.{◌∙◌, ap, codes}
use Rattle.clap.specs.Words.{found_of}
use Rattle.command_words.specs.Words.{command_with}
use Rattle.command_words.proofs.MatchLemmas.{flag_shown, names_shown, no_names_shown}
use Rattle.command_words.proofs.reading.command_in.Goals as goal

pub returns-in_err-names : goal.returns-in_err-names
returns-in_err-names c s h =
    let none = no_names_shown (found_of c.args.matches.now) (codes "names") s.names h.names c.in_err-names.ensures in
    c.from_residual.ensures ∙ ap (λ names. command_with names s.trace s.json) none

pub returns : goal.returns
returns c s h =
    let found = found_of c.args.matches.now in
    let trace = flag_shown found (codes "trace") s.trace c.get_flag-trace.result h.trace c.get_flag-trace.ensures.value c.get_flag-trace.ensures.other in
    let json = flag_shown found (codes "json") s.json c.get_flag-json.result h.json c.get_flag-json.ensures.value c.get_flag-json.ensures.other in
    let names = names_shown found (codes "names") c.in_ok-names.names.now s.names h.names c.in_ok-names.ensures in
    c.command_with.ensures ∙ (λ i. command_with (names i) (trace i) (json i))
