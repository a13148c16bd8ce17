use Rattle.std.proofs.Common.{inl, inr, refl, ◌∙◌}
use Rattle.fluid_disk_keeper.proofs.Contents.{opened, left_opened, untouched, given_back, rose_back, quiet, left_found}
use Rattle.fluid_disk_keeper.proofs.keeper.DiskKeeper.open.Goals as goal

pub returns-in-Err-clause-back : goal.returns-in-Err-clause-back
returns-in-Err-clause-back g c =
    let e = c.of.ensures in
    record {
      log = given_back g.D.Disk.seen g.D.Disk.may_leave _ _ _ _ e.0 c.in-Err.ensures.back;
      deltas = untouched g.D.Disk.seen g.D.Disk.may_leave _ _ e.1.0;
      checkpoints = untouched g.D.Disk.seen g.D.Disk.may_leave _ _ e.1.1;
      cause = inl (rose_back g.D.Disk.seen g.D.Disk.may_leave _ _ _ _ e.0 c.in-Err.ensures.back);
    }

pub returns-in-Err-clause-crash_err : goal.returns-in-Err-clause-crash_err
returns-in-Err-clause-crash_err g c =
    let e = c.of.ensures in
    record {
      log = left_found g.D.Disk.seen g.D.Disk.may_leave g.D.Disk.moment g.D.Disk.left_since _ _ _ e.0 c.in-Err.ensures.crash_err;
      deltas = quiet g.D.Disk.seen g.D.Disk.may_leave g.D.Disk.moment g.D.Disk.left_since _ _ e.1.0 (g.met.D.Disk.only_now c.args.disks.deltas);
      checkpoints = quiet g.D.Disk.seen g.D.Disk.may_leave g.D.Disk.moment g.D.Disk.left_since _ _ e.1.1 (g.met.D.Disk.only_now c.args.disks.checkpoints);
    }

pub returns-in-Err-open-clause-back : goal.returns-in-Err-open-clause-back
returns-in-Err-open-clause-back g c =
    let e = c.of-in-Err-open.ensures in
    record {
      log = left_opened g.D.Disk.seen g.D.Disk.may_leave _ _ _ (e.0 ∙ c.close.ensures) c.in-Ok.ensures.opened;
      deltas = given_back g.D.Disk.seen g.D.Disk.may_leave _ _ _ _ e.1.0 c.in-Err-open.ensures.back;
      checkpoints = untouched g.D.Disk.seen g.D.Disk.may_leave _ _ e.1.1;
      cause = inr (inl (rose_back g.D.Disk.seen g.D.Disk.may_leave _ _ _ _ e.1.0 c.in-Err-open.ensures.back));
    }

pub returns-in-Err-open-clause-crash_err : goal.returns-in-Err-open-clause-crash_err
returns-in-Err-open-clause-crash_err g c =
    let e = c.of-in-Err-open.ensures in
    record {
      log = left_found g.D.Disk.seen g.D.Disk.may_leave g.D.Disk.moment g.D.Disk.left_since _ _ _ (e.0 ∙ c.close.ensures) c.in-Ok.ensures.crash;
      deltas = left_found g.D.Disk.seen g.D.Disk.may_leave g.D.Disk.moment g.D.Disk.left_since _ _ _ e.1.0 c.in-Err-open.ensures.crash_err;
      checkpoints = quiet g.D.Disk.seen g.D.Disk.may_leave g.D.Disk.moment g.D.Disk.left_since _ _ e.1.1 (g.met.D.Disk.only_now c.args.disks.checkpoints);
    }

pub returns-in-Err-open-2-clause-back : goal.returns-in-Err-open-2-clause-back
returns-in-Err-open-2-clause-back g c =
    let e = c.of-in-Err-open-2.ensures in
    record {
      log = left_opened g.D.Disk.seen g.D.Disk.may_leave _ _ _ (e.0 ∙ c.close-in-Err-open-2.ensures) c.in-Ok.ensures.opened;
      deltas = left_opened g.D.Disk.seen g.D.Disk.may_leave _ _ _ (e.1.0 ∙ c.close-in-Err-open-2-2.ensures) c.in-Ok-open.ensures.opened;
      checkpoints = given_back g.D.Disk.seen g.D.Disk.may_leave _ _ _ _ e.1.1 c.in-Err-open-2.ensures.back;
      cause = inr (inr (rose_back g.D.Disk.seen g.D.Disk.may_leave _ _ _ _ e.1.1 c.in-Err-open-2.ensures.back));
    }

pub returns-in-Err-open-2-clause-crash_err : goal.returns-in-Err-open-2-clause-crash_err
returns-in-Err-open-2-clause-crash_err g c =
    let e = c.of-in-Err-open-2.ensures in
    record {
      log = left_found g.D.Disk.seen g.D.Disk.may_leave g.D.Disk.moment g.D.Disk.left_since _ _ _ (e.0 ∙ c.close-in-Err-open-2.ensures) c.in-Ok.ensures.crash;
      deltas = left_found g.D.Disk.seen g.D.Disk.may_leave g.D.Disk.moment g.D.Disk.left_since _ _ _ (e.1.0 ∙ c.close-in-Err-open-2-2.ensures) c.in-Ok-open.ensures.crash;
      checkpoints = left_found g.D.Disk.seen g.D.Disk.may_leave g.D.Disk.moment g.D.Disk.left_since _ _ _ e.1.1 c.in-Err-open-2.ensures.crash_err;
    }

pub returns-clause-opened : goal.returns-clause-opened
returns-clause-opened g c =
    opened g.D.Disk.seen g.D.Disk.may_leave c.args.disks _ c.in-Ok.ensures.opened c.in-Ok-open.ensures.opened c.in-Ok-open-2.ensures.opened g.met.D.Disk.leaves_read refl refl

pub returns-clause-crash : goal.returns-clause-crash
returns-clause-crash g c = record { log = c.in-Ok.ensures.crash; deltas = c.in-Ok-open.ensures.crash; checkpoints = c.in-Ok-open-2.ensures.crash }
