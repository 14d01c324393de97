use Rattle.run_words.proofs.LogLemmas.{put_in_log}
use Rattle.run_words.proofs.laws.puts_stand_in_logs.Goals as goal

pub returns : goal.returns
returns c = put_in_log
