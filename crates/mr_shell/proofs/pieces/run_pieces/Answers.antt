use Rattle.std.proofs.Common.{◌≡◌, ◌+◌, ◌<◌, ◌≤◌, ◌++◌, ℕ, List, [], ap, sym, ◌∙◌, arith, subst, take, length, length-append, length-take-le, refl}
use Rattle.std.proofs.lemmas.Result.{IfErr-weaker, err_from_is_err_and, on_ok_weaker}
use Rattle.std.specs.Io.KnownBytes.{IsAtEnd, prepend_known}
use Rattle.mr_io.proofs.Told.{prepend_known-nil}
use Rattle.mr_shell.specs.Pieces.{HasTaken}
use Rattle.mr_shell.proofs.StopLemmas.{nothing_taken, stops_size, stops_within, told_more, told_none}
use Rattle.mr_shell.proofs.pieces.run_pieces.Goals as goal

pub pieces-init : goal.pieces-init
pieces-init g c =
    record {
      ready = c.requires.ready;
      reads = omega arith;
      writes = omega arith;
      bounded = omega arith;
      so_far = λ report h. ([], prepend_known-nil (g.S.Source.left c.args.source.now), refl, nothing_taken (g.R.Runner.has_run report) c.args.runner.now c.args.pending.items (g.K.Sink.written c.args.sink.now) c.requires.empty h);
    }

pub returns-then-count-eq0-clause-whole : goal.returns-then-count-eq0-clause-whole
returns-then-count-eq0-clause-whole g c =
    let same : g.S.Source.left c.pieces.source ≡ g.S.Source.left c.read_piece.new.source =
    told_none (g.S.Source.left c.pieces.source) (g.S.Source.left c.read_piece.new.source) c.in_ok-count.count c.read_piece.new.buffer c.if-count-eq0.true c.in_ok-count.ensures.told in
    on_ok_weaker c.run_last.result
    (λ whole report h.
    let so = c.pieces.invariant.so_far report h in (
      so.0,
      so.1 ∙ ap (prepend_known so.0) same,
      whole report so.0 (g.S.Source.left c.read_piece.new.source)
          (subst (λ (l : List ℕ). HasTaken (g.R.Runner.has_run report) so.0 c.pieces.runner l (g.K.Sink.written c.pieces.sink)) (sym c.as_slice.ensures.value) so.3)
          (subst IsAtEnd same (c.in_ok-count.ensures.end c.if-count-eq0.true))
          (omega (arith, so.2, c.pieces.invariant.bounded)),
    ))
    c.run_last.ensures.whole

pub returns-then-count-eq0-clause-stops : goal.returns-then-count-eq0-clause-stops
returns-then-count-eq0-clause-stops g c =
    let same : g.S.Source.left c.pieces.source ≡ g.S.Source.left c.read_piece.new.source =
    told_none (g.S.Source.left c.pieces.source) (g.S.Source.left c.read_piece.new.source) c.in_ok-count.count c.read_piece.new.buffer c.if-count-eq0.true c.in_ok-count.ensures.told in
    IfErr-weaker c.run_last.result _ _
    (λ end stops report h.
    let so = c.pieces.invariant.so_far report h in (
      so.0,
      so.1 ∙ ap (prepend_known so.0) same,
      stops report so.0 (g.S.Source.left c.read_piece.new.source)
          (subst (λ (l : List ℕ). HasTaken (g.R.Runner.has_run report) so.0 c.pieces.runner l (g.K.Sink.written c.pieces.sink)) (sym c.as_slice.ensures.value) so.3)
          (subst IsAtEnd same (c.in_ok-count.ensures.end c.if-count-eq0.true))
          (omega (arith, so.2, c.pieces.invariant.bounded)),
    ))
    c.run_last.ensures.stops

pub returns-then-taken-eq-LARGEST-clause-stops : goal.returns-then-taken-eq-LARGEST-clause-stops
returns-then-taken-eq-LARGEST-clause-stops g c =
    λ report h.
    let so = c.pieces.invariant.so_far report h in
    let one : c.in_ok-count.count ≡ 1 = omega (arith, c.in_ok-count.ensures.one_beyond c.if-taken-eq-LARGEST.true, c.if-count-eq0.false) in
    let some : 0 < length c.read_piece.new.buffer = omega (arith, c.read_piece.auto.buffer, c.pieces.auto.buffer, c.requires.room) in (
      so.0 ++ take c.in_ok-count.count c.read_piece.new.buffer,
      told_more (g.S.Source.left c.args.source.now) (g.S.Source.left c.pieces.source) (g.S.Source.left c.read_piece.new.source) so.0 (take c.in_ok-count.count c.read_piece.new.buffer) so.1 c.in_ok-count.ensures.told,
      stops_size (g.R.Runner.has_run report) (g.R.Runner.stops_at report) so.0 c.read_piece.new.buffer c.in_ok-count.count (g.S.Source.left c.read_piece.new.source) c.pieces.runner c.pieces.pending.items (g.K.Sink.written c.pieces.sink) one some (so.2 ∙ c.if-taken-eq-LARGEST.true) so.3,
    )

pub returns-in_err-run_piece-clause-stops : goal.returns-in_err-run_piece-clause-stops
returns-in_err-run_piece-clause-stops g c =
    let piece = take c.in_ok-count.count c.read_piece.new.buffer in
    let below : c.pieces.taken < 16777216 = omega (arith, c.pieces.invariant.bounded, c.if-taken-eq-LARGEST.false) in
    let fits : c.in_ok-count.count ≤ length c.read_piece.new.buffer = omega (arith, c.read_piece.auto.buffer, c.pieces.auto.buffer, c.requires.room, c.in_ok-count.ensures.within) in
    let many : length piece ≤ 65536 = omega (arith, length-take-le c.in_ok-count.count c.read_piece.new.buffer fits, c.in_ok-count.ensures.within) in
    let p = err_from_is_err_and c.from_residual-in_err-run_piece.result c.from_residual-in_err-run_piece.ensures.1 in
    rw (p.1, p.2)
    (λ report h.
    let so = c.pieces.invariant.so_far report h in
    let grown : length (so.0 ++ piece) ≡ c.pieces.taken + c.in_ok-count.count = length-append so.0 piece ∙ omega (arith, so.2, length-take-le c.in_ok-count.count c.read_piece.new.buffer fits) in
    let within : length (so.0 ++ piece) ≤ 16777216 = omega (arith, grown, c.in_ok-count.ensures.bounded below) in (
      so.0 ++ piece,
      told_more (g.S.Source.left c.args.source.now) (g.S.Source.left c.pieces.source) (g.S.Source.left c.read_piece.new.source) so.0 piece so.1 c.in_ok-count.ensures.told,
      stops_within (g.R.Runner.has_run report) (g.R.Runner.stops_at report) c.in_err-run_piece.field-0.0 (so.0 ++ piece) (g.S.Source.left c.read_piece.new.source) (length piece) c.run_piece.new.runner (g.K.Sink.written c.run_piece.new.sink) c.in_err-run_piece.ensures.ends within many
          (c.in_err-run_piece.ensures.stops report so.0 so.3),
    ))

pub pieces-preserved : goal.pieces-preserved
pieces-preserved g c =
    let inv = c.pieces.invariant in
    let piece = take c.in_ok-count.count c.read_piece.new.buffer in
    let below : c.pieces.taken < 16777216 = omega (arith, inv.bounded, c.if-taken-eq-LARGEST.false) in
    let fits : c.in_ok-count.count ≤ length c.read_piece.new.buffer = omega (arith, c.read_piece.auto.buffer, c.pieces.auto.buffer, c.requires.room, c.in_ok-count.ensures.within) in
    record {
      ready = c.in_ok-run_piece.ensures.ready;
      reads = omega (arith, inv.reads, c.in_ok-count.ensures.never_falls);
      writes = omega (arith, inv.writes, c.in_ok-run_piece.ensures.never_falls);
      bounded = c.in_ok-count.ensures.bounded below;
      so_far = λ report h.
          let so = c.pieces.invariant.so_far report h in (
            so.0 ++ piece,
            told_more (g.S.Source.left c.args.source.now) (g.S.Source.left c.pieces.source) (g.S.Source.left c.read_piece.new.source) so.0 piece so.1 c.in_ok-count.ensures.told,
            length-append so.0 piece ∙ omega (arith, so.2, length-take-le c.in_ok-count.count c.read_piece.new.buffer fits),
            c.in_ok-run_piece.ensures.runs report so.0 so.3,
          );
    }
