use Rattle.std.proofs.Common.{◌≡◌, ◌+◌, ℕ, List, length, take, ap, subst, ◌∙◌, arith}
use Rattle.std.specs.Prelude.{Some}
use Rattle.fluid_disk.specs.Disk.{Cut}
use Rattle.fluid_disk.specs.Records.{spelled, Finds}
use Rattle.fluid_disk.proofs.Moments.{weaker, chained}
use Rattle.fluid_disk.proofs.Standing.{tells_at, mapped_at}
use Rattle.fluid_disk.proofs.Endings.{has_gate, end_cut, end_left, gate_closed}
use Rattle.fluid_disk.proofs.opening.clear.Goals as goal

pub returns-in_err-shorten-clause-crash : goal.returns-in_err-shorten-clause-crash
returns-in_err-shorten-clause-crash g c records held told only finds place =
    let size = tells_at (g.D.Disk.seen c.args.disk.now).bytes (λ b. (g.D.Disk.seen c.args.disk.now).size ≡ length b) held told (g.met.D.Disk.sized c.args.disk.now) in
    let gate = has_gate records held finds (omega (arith, c.requires, size, place)) in
    let to : c.args.gate + 1 ≡ length (spelled records) + 1 = ap (λ (n : ℕ). n + 1) place in
    let one = weaker g.D.Disk.moment g.D.Disk.left_since c.args.disk.now c.shorten.new.disk (Cut (c.args.gate + 1) held) (Finds records)
    (λ image cut. end_cut records gate.gate gate.behind image (c.args.gate + 1) to (subst (Finds records) gate.splits finds) (subst (λ (l : List ℕ). Cut (c.args.gate + 1) l image) gate.splits cut))
    (c.shorten.ensures.crash held told only) in
    one

pub returns-in_err-shut-clause-crash : goal.returns-in_err-shut-clause-crash
returns-in_err-shut-clause-crash g c records held told only finds place =
    let size = tells_at (g.D.Disk.seen c.args.disk.now).bytes (λ b. (g.D.Disk.seen c.args.disk.now).size ≡ length b) held told (g.met.D.Disk.sized c.args.disk.now) in
    let gate = has_gate records held finds (omega (arith, c.requires, size, place)) in
    let to : c.args.gate + 1 ≡ length (spelled records) + 1 = ap (λ (n : ℕ). n + 1) place in
    let one = weaker g.D.Disk.moment g.D.Disk.left_since c.args.disk.now c.shorten.new.disk (Cut (c.args.gate + 1) held) (Finds records)
    (λ image cut. end_cut records gate.gate gate.behind image (c.args.gate + 1) to (subst (Finds records) gate.splits finds) (subst (λ (l : List ℕ). Cut (c.args.gate + 1) l image) gate.splits cut))
    (c.shorten.ensures.crash held told only) in
    let left = mapped_at (take (c.args.gate + 1)) (g.D.Disk.seen c.args.disk.now).bytes (g.D.Disk.seen c.shorten.new.disk).bytes held c.in_ok-shorten.ensures.does.bytes told
    ∙ ap (λ (l : List ℕ). Some (take (c.args.gate + 1) l)) gate.splits ∙ ap (λ (l : List ℕ). Some l) (end_left records gate.gate gate.behind (c.args.gate + 1) to) in
    chained g.D.Disk.moment g.D.Disk.left_since c.args.disk.now c.shorten.new.disk c.shut.new.disk (Finds records) one (c.shut.ensures.crash records gate.gate left finds.short place)

pub returns-clause-crash : goal.returns-clause-crash
returns-clause-crash g c records held told only finds place =
    let size = tells_at (g.D.Disk.seen c.args.disk.now).bytes (λ b. (g.D.Disk.seen c.args.disk.now).size ≡ length b) held told (g.met.D.Disk.sized c.args.disk.now) in
    let gate = has_gate records held finds (omega (arith, c.requires, size, place)) in
    let to : c.args.gate + 1 ≡ length (spelled records) + 1 = ap (λ (n : ℕ). n + 1) place in
    let one = weaker g.D.Disk.moment g.D.Disk.left_since c.args.disk.now c.shorten.new.disk (Cut (c.args.gate + 1) held) (Finds records)
    (λ image cut. end_cut records gate.gate gate.behind image (c.args.gate + 1) to (subst (Finds records) gate.splits finds) (subst (λ (l : List ℕ). Cut (c.args.gate + 1) l image) gate.splits cut))
    (c.shorten.ensures.crash held told only) in
    let left = mapped_at (take (c.args.gate + 1)) (g.D.Disk.seen c.args.disk.now).bytes (g.D.Disk.seen c.shorten.new.disk).bytes held c.in_ok-shorten.ensures.does.bytes told
    ∙ ap (λ (l : List ℕ). Some (take (c.args.gate + 1) l)) gate.splits ∙ ap (λ (l : List ℕ). Some l) (end_left records gate.gate gate.behind (c.args.gate + 1) to) in
    chained g.D.Disk.moment g.D.Disk.left_since c.args.disk.now c.shorten.new.disk c.shut.new.disk (Finds records) one (c.shut.ensures.crash records gate.gate left finds.short place)

pub returns-clause-closed : goal.returns-clause-closed
returns-clause-closed g c records held told finds closed place =
    let size = tells_at (g.D.Disk.seen c.args.disk.now).bytes (λ b. (g.D.Disk.seen c.args.disk.now).size ≡ length b) held told (g.met.D.Disk.sized c.args.disk.now) in
    let gate = has_gate records held finds (omega (arith, c.requires, size, place)) in
    let to : c.args.gate + 1 ≡ length (spelled records) + 1 = ap (λ (n : ℕ). n + 1) place in
    let left = mapped_at (take (c.args.gate + 1)) (g.D.Disk.seen c.args.disk.now).bytes (g.D.Disk.seen c.shorten.new.disk).bytes held c.in_ok-shorten.ensures.does.bytes told
    ∙ ap (λ (l : List ℕ). Some (take (c.args.gate + 1) l)) gate.splits ∙ ap (λ (l : List ℕ). Some l) (end_left records gate.gate gate.behind (c.args.gate + 1) to) in
    c.in_ok-shut.ensures.closed (spelled records) gate.gate left (λ is. gate_closed records gate.gate gate.behind held gate.splits (closed is)) place
