use Rattle.std.proofs.Common.{refl}
use Rattle.std.proofs.lemmas.Result.{err_from_is_err_and}
use Rattle.fluid_load.proofs.Said.{noted_untaken, noted_taken, counted_same, kept_same}
use Rattle.fluid_load.proofs.working.Working.note.Goals as goal

pub returns-then-not-is_taken-clause-notes : goal.returns-then-not-is_taken-clause-notes
returns-then-not-is_taken-clause-notes g c = noted_untaken c.args.verdict.now c.args.self.now c.count.new.self c.count.ensures c.args.writer.now.name c.args.submission c.is_taken.result c.is_taken.ensures c.if-not-is_taken.true

pub returns-then-not-is_taken-clause-same : goal.returns-then-not-is_taken-clause-same
returns-then-not-is_taken-clause-same g c = counted_same c.args.verdict.now c.args.self.now c.count.new.self c.count.ensures

pub returns-clause-notes : goal.returns-clause-notes
returns-clause-notes g c = noted_taken c.args.verdict.now c.args.self.now c.count.new.self c.count.ensures c.args.writer.now.name c.args.submission c.keep.new.self c.is_taken.result c.is_taken.ensures c.if-not-is_taken.false c.keep.ensures.rest c.in_ok-keep.ensures.kept

pub returns-clause-same : goal.returns-clause-same
returns-clause-same g c = kept_same c.args.verdict.now c.args.self.now c.count.new.self c.count.ensures c.keep.new.self c.keep.ensures.rest

pub returns-in_err-keep-clause-same : goal.returns-in_err-keep-clause-same
returns-in_err-keep-clause-same g c = kept_same c.args.verdict.now c.args.self.now c.count.new.self c.count.ensures c.keep.new.self c.keep.ensures.rest

pub returns-in_err-keep-clause-short : goal.returns-in_err-keep-clause-short
returns-in_err-keep-clause-short g c =
    let e = err_from_is_err_and c.from_residual.result c.from_residual.ensures.1 in
    rw (e.1, e.2) refl
