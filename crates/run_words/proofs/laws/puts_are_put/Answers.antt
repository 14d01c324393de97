use Rattle.run_words.proofs.AttemptLemmas.{put_was_made, made_is_put}
use Rattle.run_words.proofs.laws.puts_are_put.Goals as goal

pub returns : goal.returns
returns c = λ h a p. (put_was_made h a p, made_is_put h a p)
