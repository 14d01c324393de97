use Rattle.run_words.proofs.AttemptLemmas.{serve_was_served, served_is_serve}
use Rattle.run_words.proofs.laws.serves_are_served.Goals as goal

pub returns : goal.returns
returns c = λ setup h a s. (serve_was_served setup h a s, λ w. served_is_serve setup h a s w.0 w.1)
