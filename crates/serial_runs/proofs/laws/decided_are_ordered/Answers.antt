use Rattle.serial_runs.proofs.DecidedLists.{IsListed, are_decided, decided_once, listed}
use Rattle.serial_runs.proofs.laws.decided_are_ordered.Goals as goal

pub returns : goal.returns
returns c =
    λ setup h sound lawful.
    let all : IsListed setup h = listed setup h lawful in
    (all.decided, are_decided setup h all, decided_once setup h lawful all)
