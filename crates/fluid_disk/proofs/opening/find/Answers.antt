use Rattle.std.proofs.Common.{◌≡◌, ◌<◌, ℕ, List, [], ◌∷◌, ◌++◌, length, inl, inr, ap, sym, subst, ◌∙◌, arith}
use Rattle.std.specs.Prelude.{true, Some, ◌⊎◌}
use Rattle.fluid_disk.specs.Disk.{Only}
use Rattle.fluid_disk.specs.Records.{spelled, Finds, IsAtRest}
use Rattle.fluid_disk.specs.Files.{FindsSame, ReadsClosed}
use Rattle.fluid_disk.proofs.Moments.{weaker, chained, left_behind}
use Rattle.fluid_disk.proofs.Runs.{quiet_run}
use Rattle.fluid_disk.proofs.Standing.{tells_at, told_before, same_told, settles}
use Rattle.fluid_disk.proofs.Endings.{found_once}
use Rattle.fluid_disk.proofs.Rows.{length_gates}
use Rattle.fluid_disk.proofs.opening.find.Goals as goal

pub last_gate-requires : goal.last_gate-requires
last_gate-requires g c = let w = c.in_ok-walked.ensures.found in omega (arith, ap length (c.deref.ensures.value ∙ w.1.gates_are), length_gates 0 w.0)

pub settle-requires : goal.settle-requires
settle-requires g c =
    let w = c.in_ok-walked.ensures.found in
    let place = c.last_gate.ensures w.0 (c.deref.ensures.value ∙ w.1.gates_are) in
    omega (arith, place, w.1.within, c.walk.ensures.reads.same.size)

pub returns-in_err-sync-clause-crash : goal.returns-in_err-sync-clause-crash
returns-in_err-sync-clause-crash g c held told =
    let Q : List ℕ → Type 0 = λ image. g.D.Disk.may_leave c.args.disk.now image ⊎ FindsSame held image in
    let one = weaker g.D.Disk.moment g.D.Disk.left_since c.args.disk.now c.sync.new.self (g.D.Disk.may_leave c.args.disk.now) Q (λ image now. inl now)
    (quiet_run g.D.Disk.may_leave g.D.Disk.moment g.D.Disk.left_since c.args.disk.now c.sync.new.self (g.met.D.Disk.only_now c.args.disk.now) c.sync.ensures.crash c.sync.ensures.time) in
    one

pub returns-in_err-walked-clause-crash : goal.returns-in_err-walked-clause-crash
returns-in_err-walked-clause-crash g c held told =
    let Q : List ℕ → Type 0 = λ image. g.D.Disk.may_leave c.args.disk.now image ⊎ FindsSame held image in
    let one = weaker g.D.Disk.moment g.D.Disk.left_since c.args.disk.now c.sync.new.self (g.D.Disk.may_leave c.args.disk.now) Q (λ image now. inl now)
    (quiet_run g.D.Disk.may_leave g.D.Disk.moment g.D.Disk.left_since c.args.disk.now c.sync.new.self (g.met.D.Disk.only_now c.args.disk.now) c.sync.ensures.crash c.sync.ensures.time) in
    let two = chained g.D.Disk.moment g.D.Disk.left_since c.args.disk.now c.sync.new.self c.walk.new.disk Q one
    (weaker g.D.Disk.moment g.D.Disk.left_since c.sync.new.self c.walk.new.disk (g.D.Disk.may_leave c.sync.new.self) Q (λ image now. inl (c.sync.ensures.crash image now)) c.walk.ensures.reads.since) in
    two

pub returns-in_err-settle-clause-crash : goal.returns-in_err-settle-clause-crash
returns-in_err-settle-clause-crash g c held told =
    let Q : List ℕ → Type 0 = λ image. g.D.Disk.may_leave c.args.disk.now image ⊎ FindsSame held image in
    let one = weaker g.D.Disk.moment g.D.Disk.left_since c.args.disk.now c.sync.new.self (g.D.Disk.may_leave c.args.disk.now) Q (λ image now. inl now)
    (quiet_run g.D.Disk.may_leave g.D.Disk.moment g.D.Disk.left_since c.args.disk.now c.sync.new.self (g.met.D.Disk.only_now c.args.disk.now) c.sync.ensures.crash c.sync.ensures.time) in
    let two = chained g.D.Disk.moment g.D.Disk.left_since c.args.disk.now c.sync.new.self c.walk.new.disk Q one
    (weaker g.D.Disk.moment g.D.Disk.left_since c.sync.new.self c.walk.new.disk (g.D.Disk.may_leave c.sync.new.self) Q (λ image now. inl (c.sync.ensures.crash image now)) c.walk.ensures.reads.since) in
    let w = c.in_ok-walked.ensures.found in
    let place = c.last_gate.ensures w.0 (c.deref.ensures.value ∙ w.1.gates_are) in
    let told_then = c.walk.ensures.reads.same.bytes ∙ c.sync.ensures.same.bytes ∙ told in
    let finds = tells_at (g.D.Disk.seen c.sync.new.self).bytes (Finds w.0) held (c.sync.ensures.same.bytes ∙ told) w.1.finds in
    let only : Only held (g.D.Disk.may_leave c.walk.new.disk) = λ image now.
    tells_at (g.D.Disk.seen c.sync.new.self).bytes (λ b. Only b (g.D.Disk.may_leave c.sync.new.self)) held (c.sync.ensures.same.bytes ∙ told) c.in_ok-sync.ensures.durable image (c.walk.ensures.reads.fewer image now) in
    chained g.D.Disk.moment g.D.Disk.left_since c.args.disk.now c.walk.new.disk c.settle.new.disk Q two
    (weaker g.D.Disk.moment g.D.Disk.left_since c.walk.new.disk c.settle.new.disk (Finds w.0) Q (λ image found. inr (λ records other. subst (λ (l : List (List ℕ)). Finds l image) (found_once w.0 records held finds other) found))
    (c.settle.ensures.crash w.0 held told_then only finds place))

pub returns-clause-crash : goal.returns-clause-crash
returns-clause-crash g c held told =
    let Q : List ℕ → Type 0 = λ image. g.D.Disk.may_leave c.args.disk.now image ⊎ FindsSame held image in
    let one = weaker g.D.Disk.moment g.D.Disk.left_since c.args.disk.now c.sync.new.self (g.D.Disk.may_leave c.args.disk.now) Q (λ image now. inl now)
    (quiet_run g.D.Disk.may_leave g.D.Disk.moment g.D.Disk.left_since c.args.disk.now c.sync.new.self (g.met.D.Disk.only_now c.args.disk.now) c.sync.ensures.crash c.sync.ensures.time) in
    let two = chained g.D.Disk.moment g.D.Disk.left_since c.args.disk.now c.sync.new.self c.walk.new.disk Q one
    (weaker g.D.Disk.moment g.D.Disk.left_since c.sync.new.self c.walk.new.disk (g.D.Disk.may_leave c.sync.new.self) Q (λ image now. inl (c.sync.ensures.crash image now)) c.walk.ensures.reads.since) in
    let w = c.in_ok-walked.ensures.found in
    let place = c.last_gate.ensures w.0 (c.deref.ensures.value ∙ w.1.gates_are) in
    let told_then = c.walk.ensures.reads.same.bytes ∙ c.sync.ensures.same.bytes ∙ told in
    let finds = tells_at (g.D.Disk.seen c.sync.new.self).bytes (Finds w.0) held (c.sync.ensures.same.bytes ∙ told) w.1.finds in
    let only : Only held (g.D.Disk.may_leave c.walk.new.disk) = λ image now.
    tells_at (g.D.Disk.seen c.sync.new.self).bytes (λ b. Only b (g.D.Disk.may_leave c.sync.new.self)) held (c.sync.ensures.same.bytes ∙ told) c.in_ok-sync.ensures.durable image (c.walk.ensures.reads.fewer image now) in
    chained g.D.Disk.moment g.D.Disk.left_since c.args.disk.now c.walk.new.disk c.settle.new.disk Q two
    (weaker g.D.Disk.moment g.D.Disk.left_since c.walk.new.disk c.settle.new.disk (Finds w.0) Q (λ image found. inr (λ records other. subst (λ (l : List (List ℕ)). Finds l image) (found_once w.0 records held finds other) found))
    (c.settle.ensures.crash w.0 held told_then only finds place))

pub returns-clause-stands : goal.returns-clause-stands
returns-clause-stands g c =
    let w = c.in_ok-walked.ensures.found in
    let place = c.last_gate.ensures w.0 (c.deref.ensures.value ∙ w.1.gates_are) in
    let closed : (held : List ℕ) → (g.D.Disk.seen c.args.disk.now).bytes ≡ Some held → Finds w.0 held × ((g.D.Disk.seen c.settle.new.disk).bytes ≡ Some (spelled w.0 ++ 0 ∷ [])) = λ held told.
    let finds = tells_at (g.D.Disk.seen c.sync.new.self).bytes (Finds w.0) held (c.sync.ensures.same.bytes ∙ told) w.1.finds in
    let ends = tells_at (g.D.Disk.seen c.sync.new.self).bytes (λ b. c.in_ok-walked.walked.closed ≡ true → ReadsClosed w.0 b) held (c.sync.ensures.same.bytes ∙ told) w.2 in
    (finds, c.in_ok-settle.ensures.closed w.0 held (c.walk.ensures.reads.same.bytes ∙ c.sync.ensures.same.bytes ∙ told) finds ends place) in
    let rest : (held : List ℕ) → (g.D.Disk.seen c.settle.new.disk).bytes ≡ Some held → IsAtRest w.0 held = λ held told.
    let h = told_before (g.D.Disk.seen c.walk.new.disk).bytes (g.D.Disk.seen c.settle.new.disk).bytes held c.settle.ensures.told told in
    let before : (g.D.Disk.seen c.args.disk.now).bytes ≡ Some h.0 = sym (c.walk.ensures.reads.same.bytes ∙ c.sync.ensures.same.bytes) ∙ h.1 in
    record { gate = 0; behind = []; splits = same_told (g.D.Disk.seen c.settle.new.disk).bytes held (spelled w.0 ++ 0 ∷ []) told (closed h.0 before).1; closed = omega arith } in
    let durable = c.in_ok-settle.ensures.durable in
    let room : length (spelled w.0) < (g.D.Disk.seen c.settle.new.disk).size = omega (arith, place, durable.1) in
    (w.0, settles g.D.Disk.seen g.D.Disk.may_leave w.0 c.settle.new.disk c.in_ok-walked.walked.gates.items w.1.gates_are w.1.short room durable.0 rest, closed)

pub returns-in_err-sync-clause-finds : goal.returns-in_err-sync-clause-finds
returns-in_err-sync-clause-finds g c held now told then = inl (same_told (g.D.Disk.seen c.sync.new.self).bytes now held then (c.sync.ensures.same.bytes ∙ told))

pub returns-in_err-walked-clause-finds : goal.returns-in_err-walked-clause-finds
returns-in_err-walked-clause-finds g c held now told then =
    inl (same_told (g.D.Disk.seen c.walk.new.disk).bytes now held then (c.walk.ensures.reads.same.bytes ∙ c.sync.ensures.same.bytes ∙ told))

pub returns-in_err-settle-clause-finds : goal.returns-in_err-settle-clause-finds
returns-in_err-settle-clause-finds g c held now told then =
    let w = c.in_ok-walked.ensures.found in
    let place = c.last_gate.ensures w.0 (c.deref.ensures.value ∙ w.1.gates_are) in
    let told_then = c.walk.ensures.reads.same.bytes ∙ c.sync.ensures.same.bytes ∙ told in
    let finds = tells_at (g.D.Disk.seen c.sync.new.self).bytes (Finds w.0) held (c.sync.ensures.same.bytes ∙ told) w.1.finds in
    let only : Only held (g.D.Disk.may_leave c.walk.new.disk) = λ image now.
    tells_at (g.D.Disk.seen c.sync.new.self).bytes (λ b. Only b (g.D.Disk.may_leave c.sync.new.self)) held (c.sync.ensures.same.bytes ∙ told) c.in_ok-sync.ensures.durable image (c.walk.ensures.reads.fewer image now) in
    inr (
      w.0,
      finds,
      left_behind g.D.Disk.moment g.D.Disk.left_since c.walk.new.disk c.settle.new.disk (Finds w.0) (g.D.Disk.may_leave c.settle.new.disk) (c.settle.ensures.crash w.0 held told_then only finds place)
          (g.met.D.Disk.counts_now c.settle.new.disk) now (tells_at (g.D.Disk.seen c.settle.new.disk).bytes (g.D.Disk.may_leave c.settle.new.disk) now then (g.met.D.Disk.leaves_read c.settle.new.disk)),
    )

pub returns-clause-finds : goal.returns-clause-finds
returns-clause-finds g c held now told then =
    let w = c.in_ok-walked.ensures.found in
    let place = c.last_gate.ensures w.0 (c.deref.ensures.value ∙ w.1.gates_are) in
    let told_then = c.walk.ensures.reads.same.bytes ∙ c.sync.ensures.same.bytes ∙ told in
    let finds = tells_at (g.D.Disk.seen c.sync.new.self).bytes (Finds w.0) held (c.sync.ensures.same.bytes ∙ told) w.1.finds in
    let only : Only held (g.D.Disk.may_leave c.walk.new.disk) = λ image now.
    tells_at (g.D.Disk.seen c.sync.new.self).bytes (λ b. Only b (g.D.Disk.may_leave c.sync.new.self)) held (c.sync.ensures.same.bytes ∙ told) c.in_ok-sync.ensures.durable image (c.walk.ensures.reads.fewer image now) in
    inr (
      w.0,
      finds,
      left_behind g.D.Disk.moment g.D.Disk.left_since c.walk.new.disk c.settle.new.disk (Finds w.0) (g.D.Disk.may_leave c.settle.new.disk) (c.settle.ensures.crash w.0 held told_then only finds place)
          (g.met.D.Disk.counts_now c.settle.new.disk) now (tells_at (g.D.Disk.seen c.settle.new.disk).bytes (g.D.Disk.may_leave c.settle.new.disk) now then (g.met.D.Disk.leaves_read c.settle.new.disk)),
    )
