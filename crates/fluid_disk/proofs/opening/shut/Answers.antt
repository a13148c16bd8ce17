use Rattle.std.proofs.Common.{◌≡◌, ℕ, List, [], ◌∷◌, ◌++◌, ap, subst, ◌∙◌, arith}
use Rattle.std.specs.Prelude.{Some}
use Rattle.fluid_disk.specs.Disk.{Torn, Only, overwritten}
use Rattle.fluid_disk.specs.Records.{spelled, Finds}
use Rattle.fluid_disk.proofs.Moments.{started, weaker}
use Rattle.fluid_disk.proofs.Standing.{tells_at, mapped_at}
use Rattle.fluid_disk.proofs.Tears.{one_written}
use Rattle.fluid_disk.proofs.Endings.{finds_short, end_torn}
use Rattle.fluid_disk.proofs.opening.shut.Goals as goal

pub returns-then-closed-clause-crash : goal.returns-then-closed-clause-crash
returns-then-closed-clause-crash g c records value told short place =
    let alone = tells_at (g.D.Disk.seen c.args.disk.now).bytes (λ b. Only b (g.D.Disk.may_leave c.args.disk.now)) (spelled records ++ value ∷ []) told c.requires.durable in
    started g.D.Disk.moment g.D.Disk.left_since c.args.disk.now (Finds records)
    (λ image left. finds_short records image (value ∷ []) short (alone image (g.met.D.Disk.only_now c.args.disk.now image left)) (omega arith))

pub returns-in_err-put-clause-crash : goal.returns-in_err-put-clause-crash
returns-in_err-put-clause-crash g c records value told short place =
    let alone = tells_at (g.D.Disk.seen c.args.disk.now).bytes (λ b. Only b (g.D.Disk.may_leave c.args.disk.now)) (spelled records ++ value ∷ []) told c.requires.durable in
    weaker g.D.Disk.moment g.D.Disk.left_since c.args.disk.now c.put.new.disk (Torn c.args.gate 1 (spelled records ++ value ∷ [])) (Finds records)
    (λ image torn. end_torn records (value ∷ []) image short (omega arith) (subst (λ (n : ℕ). Torn n 1 (spelled records ++ value ∷ []) image) place torn))
    (c.put.ensures.crash (spelled records ++ value ∷ []) told alone)

pub returns-clause-crash : goal.returns-clause-crash
returns-clause-crash g c records value told short place =
    let alone = tells_at (g.D.Disk.seen c.args.disk.now).bytes (λ b. Only b (g.D.Disk.may_leave c.args.disk.now)) (spelled records ++ value ∷ []) told c.requires.durable in
    weaker g.D.Disk.moment g.D.Disk.left_since c.args.disk.now c.put.new.disk (Torn c.args.gate 1 (spelled records ++ value ∷ [])) (Finds records)
    (λ image torn. end_torn records (value ∷ []) image short (omega arith) (subst (λ (n : ℕ). Torn n 1 (spelled records ++ value ∷ []) image) place torn))
    (c.put.ensures.crash (spelled records ++ value ∷ []) told alone)

pub returns-then-closed-clause-closed : goal.returns-then-closed-clause-closed
returns-then-closed-clause-closed g c prefix value told closed place = told ∙ ap (λ (v : ℕ). Some (prefix ++ v ∷ [])) (closed c.if-closed.true)

pub returns-clause-closed : goal.returns-clause-closed
returns-clause-closed g c prefix value told closed place =
    mapped_at (overwritten c.args.gate (0 ∷ [])) (g.D.Disk.seen c.args.disk.now).bytes (g.D.Disk.seen c.put.new.disk).bytes (prefix ++ value ∷ []) c.in_ok-put.ensures.does.bytes told
    ∙ ap (λ (n : ℕ). Some (overwritten n (0 ∷ []) (prefix ++ value ∷ []))) place ∙ ap (λ (l : List ℕ). Some l) (one_written prefix value 0 [])
