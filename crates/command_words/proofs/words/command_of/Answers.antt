use Rattle.std.proofs.Common.{◌≡◌, ◌∙◌, ap, map, subst, sym, List, [], true≢false}
use Rattle.std.specs.Prelude.{string_bytes}
use Rattle.clap.specs.Kinds.{HasKind}
use Rattle.clap.specs.Words.{App, Row, fault_of, found_of, is_simple, is_simple_and_free, matches_of, rows_of}
use Rattle.clap.specs.declared.error.kind.ErrorKind.{ErrorKind}
use Rattle.clap.specs.declared.error.kind.ErrorKind.TheVariants.{OutOfMemory}
use Rattle.clap.specs.contracts.error.kind.ErrorKind.{the_type}
use denote.Enum.Bare.{sameb}
use Rattle.command_words.specs.Reader.{HoldSorted, reader_app}
use Rattle.command_words.proofs.Answer.{reader_is_free, reader_is_simple, refused, taken}
use Rattle.command_words.proofs.words.command_of.Goals as goal

pub returns-in-Ok : goal.returns-in-Ok
returns-in-Ok c =
    let words = map string_bytes c.args.words.now in
    let reader = c.in_ok-reader.ensures in
    let passed = subst (λ (a : App). fault_of a words ≡ []) reader (c.in-Ok.ensures.kinds (ap is_simple_and_free reader ∙ reader_is_free)) in
    let rows : rows_of (found_of c.in-Ok.matches) ≡ matches_of reader_app words =
    (c.in-Ok.ensures.matches (ap is_simple reader ∙ reader_is_simple)).0 ∙ ap (λ (a : App). matches_of a words) reader in
    taken c.args.words.now c.command_in.result passed (λ s holds. c.command_in.ensures s (subst (λ (rs : List Row). HoldSorted rs s) (sym rows) holds))

pub returns-in-Err-2 : goal.returns-in-Err-2
returns-in-Err-2 c =
    let words = map string_bytes c.args.words.now in
    let reader = c.in_ok-reader.ensures in
    let fails = subst (λ (a : App). HasKind (fault_of a words) c.in-Err.error) reader (c.in-Err.ensures.kinds (ap is_simple_and_free reader ∙ reader_is_free)) in
    refused c.args.words.now c.in-Err.error fails
    (λ out. true≢false (sym (c.if-eq.ensures ∙ ap (λ (k : ErrorKind). sameb the_type k OutOfMemory) (c.kind.ensures ∙ out))))
