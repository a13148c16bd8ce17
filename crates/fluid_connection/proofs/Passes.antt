-- Passes of doors behind their calls, as a connection knows them.
use Rattle.std.proofs.Common.{◌≡◌, ◌∙◌, ℕ, ◌≤◌, Bool, true, false, nat_le, List, [], length, Result, Ok, Err, append-nil, refl, sym, ap, arith}
use Rattle.std.proofs.lemmas.List.{length-map}
use Rattle.std.proofs.lemmas.Bool.Decides.{nat_tests}
use Rattle.fluid_turn.specs.declared.view.Numbered.{Numbered}
use Rattle.fluid_turn.specs.Entries.{entries}
use Rattle.fluid_types.specs.Forms.{largest}
use Rattle.fluid_lane.specs.declared.steps.Step.{Step}
use Rattle.fluid_lane.specs.declared.fault.LaneFault.{LaneFault}
use Rattle.fluid_lane.specs.declared.fault.LaneFault.TheVariants as lane
use Rattle.fluid_doors.specs.Passing.{APass, Grows}
use Rattle.fluid_doors.specs.Answers.{is_worn_behind, WornBy}
use Rattle.fluid_talk.specs.Talking.{Goes}
use Rattle.fluid_connection.specs.Knowing.{knowing}

pub goes_with : (name : List ℕ) (p q : APass) (added : List Step) (says : List Step → Type 0) → Grows p q added says → Goes (knowing name p) (knowing name q) added
goes_with name p q added says grows = record {
  same = record { name = refl; limits = ap (λ t. t.fixed.limits) grows.turn; told = ap (λ t. t.fixed.told) grows.turn; number = grows.number };
  seen = grows.more;
  mine = grows.mine;
}

-- ---- worn

ok_worn : {A P : Type 0} (v : A) → ◌≡◌ {A = Result A LaneFault} (Ok v) (Err lane.Worn) → P
ok_worn v same = cc

fault_same : (A : Type 0) (a b : LaneFault) → ◌≡◌ {A = Result A LaneFault} (Err a) (Err b) → a ≡ b
fault_same A a b same = cc

-- an answer that isn't worn comes where the list isn't as long as may be
pub ok_open : {A : Type 0} (b : Bool) (v : A) → WornBy b (Ok v) → b ≡ false
ok_open true v worn = ok_worn v worn
ok_open false v worn = refl

pub fault_open : (A : Type 0) (b : Bool) (fault : LaneFault) → (fault ≡ lane.Worn → ⊥) → WornBy {A = A} b (Err fault) → b ≡ false
fault_open A true fault other worn = absurd (other (fault_same A fault lane.Worn worn))
fault_open A false fault other worn = refl

worn_long : (A : Type 0) (b : Bool) → WornBy {A = A} b (Err lane.Worn) → b ≡ true
worn_long A true worn = refl
worn_long A false worn = absurd worn

as_long : (many long seen : ℕ) → nat_le many long ≡ true → seen ≡ long → seen ≤ many → seen ≡ many
as_long many long seen worn same few = grind (arith, nat_tests)

-- who is told that the document is worn has seen as many steps as there can be
pub long_seen : (p q : APass) (says : List Step → Type 0) → (grows : Grows p q [] says) → is_worn_behind (entries grows.before) ≡ true → length q.seen ≡ largest
long_seen p q says grows long =
    as_long largest (length (entries grows.before)) (length q.seen) long
    (ap length (grows.seen ∙ append-nil grows.before) ∙ sym (length-map grows.before (λ (x : Numbered Step). x.entry))) grows.few

pub worn_seen : (A : Type 0) (p q : APass) (says : List Step → Type 0) → (grows : Grows p q [] says) → WornBy {A = A} (is_worn_behind (entries grows.before)) (Err lane.Worn) → length q.seen ≡ largest
worn_seen A p q says grows worn = long_seen p q says grows (worn_long A (is_worn_behind (entries grows.before)) worn)
