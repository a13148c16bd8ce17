use Rattle.std.proofs.Common.{◌≡◌, ◌≤◌, ℕ, List, [], ◌∷◌, length, ap, subst, ◌∙◌, arith, length-append}
use Rattle.std.specs.Prelude.{Some}
use Rattle.fluid_disk.specs.Disk.{Torn, overwritten}
use Rattle.fluid_disk.specs.Records.{spelled, Finds}
use Rattle.fluid_disk.proofs.Moments.{weaker}
use Rattle.fluid_disk.proofs.Standing.{tells_at, mapped_at}
use Rattle.fluid_disk.proofs.Endings.{end_torn, end_written}
use Rattle.fluid_disk.proofs.opening.settle.Goals as goal

pub returns-in_err-put-clause-crash : goal.returns-in_err-put-clause-crash
returns-in_err-put-clause-crash g c records held told only finds place =
    let size = tells_at (g.D.Disk.seen c.args.disk.now).bytes (λ b. (g.D.Disk.seen c.args.disk.now).size ≡ length b) held told (g.met.D.Disk.sized c.args.disk.now) in
    let nothing : length finds.end ≤ 1 = omega (arith, size, ap length finds.splits, length-append (spelled records) finds.end, place, c.if-end-len.false, c.len.ensures) in
    weaker g.D.Disk.moment g.D.Disk.left_since c.args.disk.now c.put.new.disk (Torn c.args.end 1 held) (Finds records)
    (λ image torn. end_torn records finds.end image finds.short nothing (subst (λ (l : List ℕ). Torn (length (spelled records)) 1 l image) finds.splits (subst (λ (n : ℕ). Torn n 1 held image) place torn)))
    (c.put.ensures.crash held told only)

pub returns-clause-crash : goal.returns-clause-crash
returns-clause-crash g c records held told only finds place =
    let size = tells_at (g.D.Disk.seen c.args.disk.now).bytes (λ b. (g.D.Disk.seen c.args.disk.now).size ≡ length b) held told (g.met.D.Disk.sized c.args.disk.now) in
    let nothing : length finds.end ≤ 1 = omega (arith, size, ap length finds.splits, length-append (spelled records) finds.end, place, c.if-end-len.false, c.len.ensures) in
    weaker g.D.Disk.moment g.D.Disk.left_since c.args.disk.now c.put.new.disk (Torn c.args.end 1 held) (Finds records)
    (λ image torn. end_torn records finds.end image finds.short nothing (subst (λ (l : List ℕ). Torn (length (spelled records)) 1 l image) finds.splits (subst (λ (n : ℕ). Torn n 1 held image) place torn)))
    (c.put.ensures.crash held told only)

pub returns-clause-closed : goal.returns-clause-closed
returns-clause-closed g c records held told finds closed place =
    let size = tells_at (g.D.Disk.seen c.args.disk.now).bytes (λ b. (g.D.Disk.seen c.args.disk.now).size ≡ length b) held told (g.met.D.Disk.sized c.args.disk.now) in
    let nothing : length finds.end ≤ 1 = omega (arith, size, ap length finds.splits, length-append (spelled records) finds.end, place, c.if-end-len.false, c.len.ensures) in
    mapped_at (overwritten c.args.end (0 ∷ [])) (g.D.Disk.seen c.args.disk.now).bytes (g.D.Disk.seen c.put.new.disk).bytes held c.in_ok-put.ensures.does.bytes told
    ∙ ap (λ (n : ℕ). Some (overwritten n (0 ∷ []) held)) place ∙ ap (λ (l : List ℕ). Some (overwritten (length (spelled records)) (0 ∷ []) l)) finds.splits
    ∙ ap (λ (l : List ℕ). Some l) (end_written records finds.end nothing)
