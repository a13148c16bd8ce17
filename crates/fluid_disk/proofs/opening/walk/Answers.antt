use Rattle.std.proofs.Common.{◌≡◌, ◌+◌, ◌<◌, ◌≤◌, ℕ, Bool, true, false, List, length, take, drop, subst, ◌∙◌, arith}
use Rattle.std.specs.Prelude.{Option, Some, IfSome, ◌^◌}
use Rattle.std.proofs.lemmas.Bool.{false≢true}
use Rattle.fluid_disk.specs.Files.{ReadsClosed}
use Rattle.fluid_disk.specs.Records.{IsHead, IsHeadless, HasHead}
use Rattle.fluid_disk.proofs.Standing.{tells_at, tells_from}
use Rattle.fluid_disk.proofs.Pieces.{reads_both, reads_none}
use Rattle.fluid_disk.proofs.Walks.{walking_on_first, walking_on_more, walked_headless, walked_long, closes}
use Rattle.fluid_disk.proofs.opening.walk.Goals as goal

pub loop-ahead-init : goal.loop-ahead-init
loop-ahead-init g c =
    rw (c.in_ok-gates.ensures.items, c.new.ensures.items)
    (walking_on_first g.D.Disk.seen g.D.Disk.may_leave g.D.Disk.moment g.D.Disk.left_since c.args.disk.now (g.met.D.Disk.only_now c.args.disk.now))

pub loop-ahead-preserved : goal.loop-ahead-preserved
loop-ahead-preserved g c =
    let so_far = c.loop-ahead.invariant in
    let place = c.loop-ahead.place in
    let count = c.in-Some.count in
    let head : (held : List ℕ) → (g.D.Disk.seen c.loop-ahead.disk).bytes ≡ Some held → HasHead (drop place held) count =
    λ held told. subst (λ (o : Option ℕ). IsHead (drop place held) o) c.in-Some.is (c.in_ok-head.ensures.head held told) in
    let short : count < 2 ^ 32 = subst (λ (o : Option ℕ). IfSome o (λ n. n < 2 ^ 32)) c.in-Some.is c.in_ok-head.ensures.short in
    let stands : place + 5 ≤ (g.D.Disk.seen c.loop-ahead.disk).size = subst (λ (o : Option ℕ). IfSome o (λ _. place + 5 ≤ (g.D.Disk.seen c.loop-ahead.disk).size)) c.in-Some.is c.in_ok-head.ensures.stands in
    let fits : place + 5 + count ≤ (g.D.Disk.seen c.args.disk.now).size = omega (arith, c.if-count-size.false, stands, c.len-size.ensures, so_far.reads.same.size) in
    rw (c.in_ok-push-in-Some.ensures.items)
    (walking_on_more g.D.Disk.seen g.D.Disk.may_leave g.D.Disk.moment g.D.Disk.left_since c.args.disk.now c.loop-ahead.disk c.head.new.disk c.loop-ahead.gates.items place c.loop-ahead.ahead.start count
    c.head.new.self.start c.loop-ahead.ahead.bytes.items c.head.new.self.bytes.items so_far (g.met.D.Disk.sized c.args.disk.now) c.head.ensures.reads c.head.ensures.cause.later
    c.in_ok-head.ensures.ahead.0 c.in_ok-head.ensures.ahead.1 head short fits)

pub returns-in-None-clause-found : goal.returns-in-None-clause-found
returns-in-None-clause-found g c =
    let so_far = c.loop-ahead.invariant in
    let place = c.loop-ahead.place in
    let none : (held : List ℕ) → (g.D.Disk.seen c.args.disk.now).bytes ≡ Some held → IsHeadless (drop place held) =
    λ held told. subst (λ (o : Option ℕ). IsHead (drop place held) o) c.in-None.is (c.in_ok-head.ensures.head held (so_far.reads.same.bytes ∙ told)) in
    let ahead = c.in_ok-head.ensures.ahead in
    let ends = tells_from (g.D.Disk.seen c.args.disk.now).bytes (λ held. c.is_closed.result ≡ true → ReadsClosed so_far.records held) (λ held told is.
    let rest = c.is_closed.ensures is in
    let now = c.head.ensures.reads.same.bytes ∙ so_far.reads.same.bytes ∙ told in
    let piece = tells_at (g.D.Disk.seen c.head.new.disk).bytes (λ b. c.head.new.self.bytes.items ≡ take (length c.head.new.self.bytes.items) (drop c.head.new.self.start b)) held now ahead.0.told in
    closes so_far.records place c.head.new.self.start c.head.new.self.bytes.items held rest.0 (so_far.walking.splits held told) piece ahead.1 rest.1) in
    (so_far.records, walked_headless so_far.records c.loop-ahead.gates.items place (g.D.Disk.seen c.args.disk.now) so_far.walking none, ends)

pub returns-in-None-clause-reads : goal.returns-in-None-clause-reads
returns-in-None-clause-reads g c =
    reads_both g.D.Disk.seen g.D.Disk.may_leave g.D.Disk.moment g.D.Disk.left_since c.args.disk.now c.loop-ahead.disk c.head.new.disk c.loop-ahead.invariant.reads c.head.ensures.reads

pub returns-then-count-size-clause-found : goal.returns-then-count-size-clause-found
returns-then-count-size-clause-found g c =
    let so_far = c.loop-ahead.invariant in
    let place = c.loop-ahead.place in
    let count = c.in-Some.count in
    let head : (held : List ℕ) → (g.D.Disk.seen c.args.disk.now).bytes ≡ Some held → HasHead (drop place held) count =
    λ held told. subst (λ (o : Option ℕ). IsHead (drop place held) o) c.in-Some.is (c.in_ok-head.ensures.head held (so_far.reads.same.bytes ∙ told)) in
    let stands : place + 5 ≤ (g.D.Disk.seen c.loop-ahead.disk).size = subst (λ (o : Option ℕ). IfSome o (λ _. place + 5 ≤ (g.D.Disk.seen c.loop-ahead.disk).size)) c.in-Some.is c.in_ok-head.ensures.stands in
    let long : (g.D.Disk.seen c.args.disk.now).size < place + 5 + count = omega (arith, c.if-count-size.true, stands, c.len-size.ensures, so_far.reads.same.size) in
    let ends = tells_from (g.D.Disk.seen c.args.disk.now).bytes (λ held. false ≡ true → ReadsClosed so_far.records held) (λ held told is. absurd (false≢true is)) in
    (so_far.records, walked_long so_far.records c.loop-ahead.gates.items place count (g.D.Disk.seen c.args.disk.now) so_far.walking (g.met.D.Disk.sized c.args.disk.now) head long, ends)

pub returns-then-count-size-clause-reads : goal.returns-then-count-size-clause-reads
returns-then-count-size-clause-reads g c =
    reads_both g.D.Disk.seen g.D.Disk.may_leave g.D.Disk.moment g.D.Disk.left_since c.args.disk.now c.loop-ahead.disk c.head.new.disk c.loop-ahead.invariant.reads c.head.ensures.reads

pub returns-in_err-head-clause-reads : goal.returns-in_err-head-clause-reads
returns-in_err-head-clause-reads g c =
    reads_both g.D.Disk.seen g.D.Disk.may_leave g.D.Disk.moment g.D.Disk.left_since c.args.disk.now c.loop-ahead.disk c.head.new.disk c.loop-ahead.invariant.reads c.head.ensures.reads

pub returns-in_err-push-in-Some-clause-reads : goal.returns-in_err-push-in-Some-clause-reads
returns-in_err-push-in-Some-clause-reads g c =
    reads_both g.D.Disk.seen g.D.Disk.may_leave g.D.Disk.moment g.D.Disk.left_since c.args.disk.now c.loop-ahead.disk c.head.new.disk c.loop-ahead.invariant.reads c.head.ensures.reads

pub returns-in_err-gates-clause-reads : goal.returns-in_err-gates-clause-reads
returns-in_err-gates-clause-reads g c = reads_none g.D.Disk.seen g.D.Disk.may_leave g.D.Disk.moment g.D.Disk.left_since c.args.disk.now (g.met.D.Disk.only_now c.args.disk.now)
