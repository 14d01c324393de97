use Rattle.std.proofs.Common.{List, ◌++◌, ◌∙◌, ap, subst, ℕ, Option}
use Rattle.std.proofs.lemmas.Result.{err_from_is_err_and}
use Rattle.std.specs.Io.KnownBytes.{append_known}
use Rattle.mr_io.specs.Pieces.{WrotePrefix}
use Rattle.mr_io.proofs.Told.{append_known-append}
use Rattle.workload.specs.Generated.{footer, header, transactions_text}
use Rattle.workload.proofs.Prefixes.{prefix_behind, prefix_front}
use Rattle.workload.proofs.generated.generate.Goals as goal

pub returns-in_err-write_all-clause-part : goal.returns-in_err-write_all-clause-part
returns-in_err-write_all-clause-part g c =
    let old = g.K.Sink.written c.args.sink.now in
    let new = g.K.Sink.written c.write_all.new.sink in
    let text = transactions_text c.args.size c.args.seed in
    rw (err_from_is_err_and c.from_residual.result c.from_residual.ensures.1).1
    (prefix_front old new (header ++ text) footer (prefix_front old new header text (subst (WrotePrefix old new) (c.as_bytes.ensures.value ∙ c.header.ensures) c.in_err-write_all.ensures.part)))

pub returns-in_err-write_transactions-clause-part : goal.returns-in_err-write_transactions-clause-part
returns-in_err-write_transactions-clause-part g c =
    let old = g.K.Sink.written c.args.sink.now in
    let mid = g.K.Sink.written c.write_all.new.sink in
    let new = g.K.Sink.written c.write_transactions.new.sink in
    let text = transactions_text c.args.size c.args.seed in
    let head = c.in_ok-write_all.ensures.all ∙ ap (append_known old) (c.as_bytes.ensures.value ∙ c.header.ensures) in
    rw (err_from_is_err_and c.from_residual-in_err-write_transactions.result c.from_residual-in_err-write_transactions.ensures.1).1
    (prefix_front old new (header ++ text) footer (prefix_behind old mid new header text head c.in_err-write_transactions.ensures.part))

pub returns-in_err-write_all-2-clause-part : goal.returns-in_err-write_all-2-clause-part
returns-in_err-write_all-2-clause-part g c =
    let old = g.K.Sink.written c.args.sink.now in
    let mid = g.K.Sink.written c.write_transactions.new.sink in
    let new = g.K.Sink.written c.write_all-2.new.sink in
    let text = transactions_text c.args.size c.args.seed in
    let head = c.in_ok-write_all.ensures.all ∙ ap (append_known old) (c.as_bytes.ensures.value ∙ c.header.ensures) in
    let most = c.in_ok-write_transactions.ensures.all ∙ (ap (λ (o : Option (List ℕ)). append_known o text) head ∙ append_known-append old header text) in
    rw (err_from_is_err_and c.from_residual-in_err-write_all-2.result c.from_residual-in_err-write_all-2.ensures.1).1
    (prefix_behind old mid new (header ++ text) footer most (subst (WrotePrefix mid new) (c.as_bytes-2.ensures.value ∙ c.footer.ensures) c.in_err-write_all-2.ensures.part))

pub returns-clause-all : goal.returns-clause-all
returns-clause-all g c =
    let old = g.K.Sink.written c.args.sink.now in
    let mid = g.K.Sink.written c.write_transactions.new.sink in
    let text = transactions_text c.args.size c.args.seed in
    let head = c.in_ok-write_all.ensures.all ∙ ap (append_known old) (c.as_bytes.ensures.value ∙ c.header.ensures) in
    let most = c.in_ok-write_transactions.ensures.all ∙ (ap (λ (o : Option (List ℕ)). append_known o text) head ∙ append_known-append old header text) in
    c.in_ok-write_all-2.ensures.all ∙ (ap (append_known mid) (c.as_bytes-2.ensures.value ∙ c.footer.ensures) ∙ (ap (λ (o : Option (List ℕ)). append_known o footer) most ∙ append_known-append old (header ++ text) footer))
