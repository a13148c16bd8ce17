-- The counts that the text of a checkpoint says are at most 2^53 - 1.
use Rattle.std.proofs.Common.{◌≡◌, ℕ, ◌≤◌, ℤ, pos, negsuc, Bool, true, false, List, Option, Some, None, Result, Ok, Err, refl, sym, ap, subst, ◌∙◌, codes}
use Rattle.std.specs.Prelude.{nat_le, if◌then◌else◌, option_and_then}
use Rattle.std.specs.Option.{ok_or}
use Rattle.std.specs.Str.{is_utf8}
use Rattle.std.proofs.lemmas.Bool.{leb-true}
use Rattle.std.proofs.lemmas.Option.{none-some, same_Some}
use Rattle.fluid_json.specs.Tree.{Tree, find, as_whole}
use Rattle.fluid_types.specs.Forms.{largest}
use Rattle.fluid_checkpoint.specs.declared.fault.CheckpointFault.{CheckpointFault}
use Rattle.fluid_checkpoint.specs.declared.fault.CheckpointFault.TheVariants.{BadText, BadField}
use Rattle.fluid_checkpoint.specs.declared.state.State.{State as Checkpoint}
use Rattle.fluid_checkpoint.specs.declared.state.Form.{Form}
use Rattle.fluid_checkpoint.specs.declared.state.Form.TheVariants as form
use Rattle.fluid_checkpoint.specs.declared.version.Version.{Version}
use Rattle.fluid_checkpoint.specs.declared.version.Version.TheVariants.{One, Two}
use Rattle.std.specs.FinMap.{from_entries}
use Rattle.fluid_checkpoint.specs.Heard.{with_moments}
use Rattle.fluid_checkpoint.specs.Reading.{Read, ◌>>=◌, member, within, count, acks, base, behind, clients, heard_in, minima, pending, version_in, at, state_in, form_of, form_in, value_in, text_answer, answer}

-- what holds of an answer
abbrev HoldsOf : {A : Type 0} → (A → Type 0) → Read A → Type 0
HoldsOf P (Ok a) = P a
HoldsOf P (Err fault) = ⊥

then_ok : {A B : Type 0} (r : Read A) (f : A → Read B) (b : B) → (r >>= f) ≡ Ok b → (a : A) × ((r ≡ Ok a) × (f a ≡ Ok b))
then_ok (Ok a) f b is = (a, (refl, is))
then_ok (Err fault) f b is = absurd (subst (HoldsOf (λ _. Unit {0})) (sym is) tt)

then_some : {A B : Type 0} (f : A → Option B) (o : Option A) (b : B) → option_and_then f o ≡ Some b → (a : A) × ((o ≡ Some a) × (f a ≡ Some b))
then_some f None b is = absurd (none-some _ is)
then_some f (Some a) b is = (a, (refl, is))

same_ok : {A : Type 0} (x y : A) → ◌≡◌ {A = Read A} (Ok x) (Ok y) → x ≡ y
same_ok x y is = subst (HoldsOf (λ z. x ≡ z)) is refl

within_small : (z : ℤ) (n : ℕ) → within z ≡ Some n → n ≤ largest
within_small (pos m) n is = by (nat_le m largest) refl is
  where
    by : (b : Bool) → nat_le m largest ≡ b → (if b then Some m else None) ≡ Some n → n ≤ largest
    by true low is = subst (λ k. k ≤ largest) (same_Some _ _ is) (leb-true m largest low)
    by false low is = absurd (none-some _ is)
within_small (negsuc m) n is = absurd (none-some _ is)

of_ok : (o : Option ℕ) (n : ℕ) (fault : CheckpointFault) → ok_or o fault ≡ Ok n → o ≡ Some n
of_ok None n fault is = absurd (subst (HoldsOf (λ _. Unit {0})) (sym is) tt)
of_ok (Some m) n fault is = ap Some (same_ok m n is)

at_small : (name : List ℕ) (t : Tree) (n : ℕ) → at name count t ≡ Ok n → n ≤ largest
at_small name t n is =
    let there = then_some count (find name t) n (of_ok (member name count t) n (BadField name) is) in
    let whole = then_some within (as_whole there.0) n there.1.1 in
    within_small whole.0 n whole.1.1

state_small : (version : Version) (t : Tree) (s : Checkpoint) → state_in version t ≡ Ok s → (s.entered ≤ largest) × (s.counted ≤ largest)
unfolding state_in
state_small version t s is =
    let first = then_ok (at (codes "acks") acks t) _ s is in
    let second = then_ok (at (codes "base") base t) _ s first.1.1 in
    let third = then_ok (at (codes "behind") behind t) _ s second.1.1 in
    let fourth = then_ok (at (codes "clients") clients t) _ s third.1.1 in
    let counts = then_ok (at (codes "counted") count t) _ s fourth.1.1 in
    let enters = then_ok (at (codes "entered") count t) _ s counts.1.1 in
    let moments = then_ok (heard_in version t) _ s enters.1.1 in
    let changes = then_ok (at (codes "minima") minima t) _ s moments.1.1 in
    let least = then_ok (at (codes "minimum") count t) _ s changes.1.1 in
    let waiting = then_ok (at (codes "pending") pending t) _ s least.1.1 in
    let last = then_ok (at (codes "sequence") count t) _ s waiting.1.1 in
    let made : Checkpoint = record {
      entered = enters.0;
      counted = counts.0;
      sequencer = record { sequence = last.0; minimum = least.0; rows = with_moments (from_entries fourth.0) moments.0 };
      scribe = record { base = second.0; behind = third.0; minima = changes.0; pending = waiting.0; acks = first.0 };
      heard = moments.0;
    } in
    let same : made ≡ s = same_ok made s last.1.1 in (
      subst (λ (c : Checkpoint). c.entered ≤ largest) same (at_small (codes "entered") t enters.0 enters.1.0),
      subst (λ (c : Checkpoint). c.counted ≤ largest) same (at_small (codes "counted") t counts.0 counts.1.0),
    )

of_version : (version : Version) (t : Tree) (s r : Checkpoint) → state_in version t ≡ Ok s → form_of version s ≡ form.Two r → (r.entered ≤ largest) × (r.counted ≤ largest)
of_version One t s r is same = absurd (subst (λ (f : Form). IsOne f) same tt)
  where
    IsOne : Form → Type 0
    IsOne (form.One n) = Unit {0}
    IsOne (form.Two c) = ⊥
of_version Two t s r is same = subst (λ (c : Checkpoint). (c.entered ≤ largest) × (c.counted ≤ largest)) (ap (value s) same) (state_small Two t s is)
  where
    value : Checkpoint → Form → Checkpoint
    value d (form.One n) = d
    value d (form.Two c) = c

form_range : (t : Tree) (r : Checkpoint) → form_in t ≡ Ok (form.Two r) → (r.entered ≤ largest) × (r.counted ≤ largest)
form_range t r is =
    let version = then_ok (version_in t) _ (form.Two r) is in
    let state = then_ok (state_in version.0 t) _ (form.Two r) version.1.1 in
    of_version version.0 t state.0 r state.1.0 (same_ok (form_of version.0 state.0) (form.Two r) state.1.1)

pub said_counts : (bytes : List ℕ) (r : Checkpoint) → answer bytes ≡ Ok (form.Two r) → (r.entered ≤ largest) × (r.counted ≤ largest)
unfolding answer
said_counts bytes r is = by (is_utf8 bytes) is
  where
    by : (b : Bool) → (if b then text_answer bytes else Err BadText) ≡ Ok (form.Two r) → (r.entered ≤ largest) × (r.counted ≤ largest)
    by true is = let value = then_ok (value_in bytes) form_in (form.Two r) is in form_range value.0 r value.1.1
    by false is = absurd (subst (HoldsOf (λ _. Unit {0})) (sym is) tt)
