use Rattle.std.proofs.Common.{◌≡◌, [], sym, ap, subst, ◌∙◌, arith, Ok}
use Rattle.fluid_io.specs.Causes.{Tells}
use Rattle.fluid_deltas.proofs.Telling.{tells_each}
use Rattle.fluid_document.specs.Loading.{newest, loaded, ReadsBehind, IsBadAs}
use Rattle.fluid_lane.specs.Starting.{Starts}
use Rattle.fluid_lane.proofs.Ids.{named_nobody}
use Rattle.fluid_lane.proofs.Caused.{caused_earlier}
use Rattle.fluid_lane.proofs.Recorded.{length-records}
use Rattle.fluid_lane.proofs.Beginning.{Opens, starts, cut_short, faults_behind, left_nobody, never_reads, faults_read}
use Rattle.fluid_lane.proofs.Leaving.{grew_put}
use Rattle.fluid_lane.proofs.lane.Lane.start.Goals as goal

pub begun-requires : goal.begun-requires
begun-requires g c =
    let e = c.in-Ok.ensures in
    let d = c.in-Ok-dismiss_all.ensures in
    let has = d.does.0 in
    let records = length-records has.done in
    record {
      few = omega (arith, has.few d.levelled.few);
      logged = omega (arith, has.entered, has.grew.kept.records, records, e.level.0, e.puts.kept.records);
      level = λ _. omega (arith, has.entered, has.grew.kept.records, records, e.level.0, e.puts.kept.records);
      reached = has.reached;
      small = c.requires.small;
      named = named_nobody _ _ d.does.1;
    }

pub returns-in-Ok-dismiss_all-clause-ok : goal.returns-in-Ok-dismiss_all-clause-ok
returns-in-Ok-dismiss_all-clause-ok g c =
    let e = c.in-Ok.ensures in
    let d = c.in-Ok-dismiss_all.ensures in
    let old = g.K.Keeper.seen c.args.keeper in
    let from = c.newest-newest.ensures ∙ ap newest c.checkpoints-opened.ensures in
    let loads = subst (λ number. Tells old.content (λ content. loaded content number ≡ Ok c.in-Ok.document.entries)) from e.loaded in
    subst (Starts old c.args.limits c.args.moment) (sym c.begun.ensures)
    (starts c.args.moment old (g.K.Keeper.seen c.load.new.keeper) (g.K.Keeper.seen c.dismiss_all.new.keeper) c.args.limits c.in-Ok.document c.dismiss_all.new.document c.checkpoints-opened.result
    (record { law = c.kept_is_loaded.ensures.checkpoints; sized = g.K.Keeper.sized c.args.keeper; puts = e.puts; later = e.later; level = e.level.0; early = e.early; lacked = e.lacked; loads = loads; kept = e.kept }) d.does.0 d.does.1
    c.checkpoints-opened.ensures (subst (λ number. Tells old.content (ReadsBehind number old.records old.reads (g.K.Keeper.seen c.load.new.keeper).reads)) from e.reads))

pub returns-in-Err-dismiss_all-clause-err : goal.returns-in-Err-dismiss_all-clause-err
returns-in-Err-dismiss_all-clause-err g c =
    let e = c.in-Ok.ensures in
    let d = c.in-Err-dismiss_all.ensures in
    let old = g.K.Keeper.seen c.args.keeper in
    let from = c.newest-newest.ensures ∙ ap newest c.checkpoints-opened.ensures in
    let loads = subst (λ number. Tells old.content (λ content. loaded content number ≡ Ok c.in-Ok.document.entries)) from e.loaded in
    let opens : Opens (g.K.Keeper.seen c.args.keeper) (g.K.Keeper.seen c.load.new.keeper) c.in-Ok.document = record { law = c.kept_is_loaded.ensures.checkpoints; sized = g.K.Keeper.sized c.args.keeper; puts = e.puts; later = e.later; level = e.level.0; early = e.early; lacked = e.lacked; loads = loads; kept = e.kept } in
    let new = g.K.Keeper.seen c.dismiss_all.new.keeper in
    let short = cut_short c.args.moment old (g.K.Keeper.seen c.load.new.keeper) new c.in-Ok.document c.dismiss_all.new.document c.in-Err-dismiss_all.fault opens d.does in
    let faults = faults_behind c.args.moment old (g.K.Keeper.seen c.load.new.keeper) new c.in-Ok.document c.dismiss_all.new.document c.in-Err-dismiss_all.fault opens d.does short in
    record {
      left = short.left;
      never = λ l kept. tells_each old.content _ (λ content. faults.0);
      bad = faults.1.bad;
      named = faults.1.named;
      cause = caused_earlier _ _ _ c.in-Err-dismiss_all.fault e.later d.cause;
      added = short.added;
      grew = short.grew;
      adds = faults.1.adds;
      lacked = short.lacked;
    }

pub returns-in-Err-clause-err : goal.returns-in-Err-clause-err
returns-in-Err-clause-err g c =
    let e = c.in-Err.ensures in
    let old = g.K.Keeper.seen c.args.keeper in
    let from = c.newest-newest.ensures ∙ ap newest c.checkpoints-opened.ensures in
    let loads = subst (λ number. Tells old.content (λ content. IsBadAs (loaded content number) c.in-Err.fault)) from e.loaded in
    let faults = faults_read old (g.K.Keeper.seen c.load.new.keeper) c.args.moment c.in-Err.fault e.puts e.cause loads in
    rw c.from.ensures
    (record {
      left = λ l kept. left_nobody c.args.moment _ l (e.kept l kept);
      never = λ l kept. never_reads c.kept_is_loaded.ensures.checkpoints old l c.in-Err.fault (g.K.Keeper.sized c.args.keeper) loads kept;
      bad = faults.1.bad;
      named = faults.1.named;
      cause = faults.0;
      added = [];
      grew = grew_put e.puts.messages old (g.K.Keeper.seen c.load.new.keeper) e.puts.kept;
      adds = faults.1.adds;
      lacked = omega (arith, e.lacked, e.puts.kept.records);
    })
