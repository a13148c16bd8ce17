-- What a file stands for while a record is added.
use Rattle.std.proofs.Common.{◌≡◌, ◌≢◌, inl, ℕ, ◌+◌, ◌<◌, ◌≤◌, List, [], ◌∷◌, ◌++◌, length, refl, sym, ◌∙◌, ap, subst, arith}
use Rattle.std.specs.Prelude.{Some}
use Rattle.fluid_io.specs.Causes.{Tells}
use Rattle.fluid_disk.specs.declared.owed.Owed.{Owed}
use Rattle.fluid_disk.specs.declared.owed.Owed.TheVariants as debts
use Rattle.fluid_disk.specs.Disk.{Stored, Torn, Only, IsDurable, LeavesOnly, StaysAtLeast, Overwrites, overwritten}
use Rattle.fluid_disk.specs.Records.{IsShort, framed, spelled, gates_from, IsAtRest}
use Rattle.fluid_disk.specs.Files.{Owing, Nothing, Appending, settled, appending, Keeps, Stands}
use Rattle.fluid_disk.proofs.Moments.{weaker, chained, left_behind}
use Rattle.fluid_disk.proofs.Standing.{at_rest, only, settles, owes, told_before, mapped_from, tells_at}
use Rattle.fluid_disk.proofs.Resting.{IsStaged, staged, behind_torn, gate_torn, gate_opened, short_push}
use Rattle.fluid_disk.proofs.Rows.{gates_push, length_push}

abbrev pub owing_is : Owing → ℕ
owing_is Nothing = 0
owing_is other = 1

pub appending_some : (bytes : List ℕ) → Appending bytes ≢ Nothing
appending_some bytes is = let wrong : 1 ≡ 0 = ap owing_is is in absurd (omega (arith, wrong))

module _ {D : Type 0} (seen : D → Stored) (may_leave : D → List ℕ → Type 0) (moment : D → ℕ) (left_since : D → ℕ → List ℕ → Type 0) where
  -- the first write failed, or the sync behind it
  pub first_failed : (records : List (List ℕ)) (bytes : List ℕ) (old new : D) (gates : List ℕ) (owed : Owed) (at n : ℕ) → Stands seen may_leave (settled records) old gates owed
      → Tells (seen old).bytes (may_leave old) → ((t : ℕ) (image : List ℕ) → t ≤ moment new → may_leave new image → left_since new t image)
      → IsShort bytes → at ≡ length (spelled records) + 1 → StaysAtLeast (seen old).size (seen old) (seen new)
      → ((held : List ℕ) → (seen old).bytes ≡ Some held → Only held (may_leave old) → LeavesOnly moment left_since old new (Torn at n held))
      → Stands seen may_leave (appending records bytes) new gates debts.Append
  first_failed records bytes old new gates owed at n s leaves counts short place stays run =
      owes seen may_leave (appending records bytes) new gates debts.Append s.gates_are s.short short refl (omega (arith, s.room, stays.no_shorter)) (appending_some bytes)
      (λ now_held told image now.
      let h = told_before (seen old).bytes (seen new).bytes now_held stays.told told in
      let rest = at_rest seen may_leave records old gates owed h.0 s leaves h.1 in
      let torn = left_behind moment left_since old new (Torn at n h.0) (may_leave new) (run h.0 h.1 (only seen may_leave records old gates owed h.0 s h.1)) counts image now in
      inl (behind_torn records h.0 image at n place rest torn))

  pub first_run : (records : List (List ℕ)) (bytes held : List ℕ) (old new : D) (at n : ℕ) → IsAtRest records held → at ≡ length (spelled records) + 1
      → LeavesOnly moment left_since old new (Torn at n held) → LeavesOnly moment left_since old new (Keeps records (Appending bytes))
  first_run records bytes held old new at n rest place run =
      weaker moment left_since old new (Torn at n held) (Keeps records (Appending bytes)) (λ image torn. inl (behind_torn records held image at n place rest torn)) run

  -- behind the first sync the record stands whole behind the gate
  pub is_staged : (records : List (List ℕ)) (bytes frame : List ℕ) (old mid : D) (gates : List ℕ) (owed : Owed) (at : ℕ) → Stands seen may_leave (settled records) old gates owed
      → Tells (seen old).bytes (may_leave old) → at ≡ length (spelled records) + 1 → frame ≡ framed bytes ++ 0 ∷ [] → Overwrites at frame (seen old) (seen mid)
      → (held : List ℕ) → (seen mid).bytes ≡ Some held → IsStaged records bytes held
  is_staged records bytes frame old mid gates owed at s leaves place frame_is writes held told =
      let h = mapped_from (overwritten at frame) (seen old).bytes (seen mid).bytes held writes.bytes told in
      let rest = at_rest seen may_leave records old gates owed h.0 s leaves h.1 in
      let is : held ≡ overwritten at (framed bytes ++ 0 ∷ []) h.0 = h.2 ∙ ap (λ (f : List ℕ). overwritten at f h.0) frame_is in
      subst (IsStaged records bytes) (sym is) (staged records bytes h.0 at place rest)

  -- the second write failed, or the sync behind it
  pub second_failed : (records : List (List ℕ)) (bytes : List ℕ) (old mid new : D) (gates : List ℕ) (owed : Owed) → Stands seen may_leave (settled records) old gates owed
      → ((t : ℕ) (image : List ℕ) → t ≤ moment new → may_leave new image → left_since new t image)
      → IsShort bytes → (seen old).size ≤ (seen mid).size → StaysAtLeast (seen mid).size (seen mid) (seen new)
      → ((held : List ℕ) → (seen mid).bytes ≡ Some held → IsStaged records bytes held) → IsDurable (seen mid) (may_leave mid)
      → ((held : List ℕ) → (seen mid).bytes ≡ Some held → Only held (may_leave mid) → LeavesOnly moment left_since mid new (Torn (length (spelled records)) 1 held))
      → Stands seen may_leave (appending records bytes) new gates debts.Append
  second_failed records bytes old mid new gates owed s counts short longer stays whole durable run =
      owes seen may_leave (appending records bytes) new gates debts.Append s.gates_are s.short short refl (omega (arith, s.room, stays.no_shorter, longer)) (appending_some bytes)
      (λ now_held told image now.
      let h = told_before (seen mid).bytes (seen new).bytes now_held stays.told told in
      let alone = tells_at (seen mid).bytes (λ b. Only b (may_leave mid)) h.0 h.1 durable in
      let torn = left_behind moment left_since mid new (Torn (length (spelled records)) 1 h.0) (may_leave new) (run h.0 h.1 alone) counts image now in
      gate_torn records bytes h.0 image (whole h.0 h.1) torn)

  pub second_run : (records : List (List ℕ)) (bytes held : List ℕ) (old mid new : D) → IsStaged records bytes held → LeavesOnly moment left_since old mid (Keeps records (Appending bytes))
      → LeavesOnly moment left_since mid new (Torn (length (spelled records)) 1 held) → LeavesOnly moment left_since old new (Keeps records (Appending bytes))
  second_run records bytes held old mid new stands one two =
      chained moment left_since old mid new (Keeps records (Appending bytes)) one
      (weaker moment left_since mid new (Torn (length (spelled records)) 1 held) (Keeps records (Appending bytes)) (λ image torn. gate_torn records bytes held image stands torn) two)

  -- both were done
  pub added : (records : List (List ℕ)) (bytes : List ℕ) (old mid new : D) (gates : List ℕ) (owed : Owed) (next : ℕ) → Stands seen may_leave (settled records) old gates owed
      → IsShort bytes → next ≡ length (spelled records) + 5 + length bytes → next < (seen new).size
      → ((held : List ℕ) → (seen mid).bytes ≡ Some held → IsStaged records bytes held)
      → Overwrites (length (spelled records)) (1 ∷ []) (seen mid) (seen new) → IsDurable (seen new) (may_leave new)
      → Stands seen may_leave (settled (records ++ bytes ∷ [])) new (gates ++ next ∷ []) debts.Nothing
  added records bytes old mid new gates owed next s short place room whole writes durable =
      let from_zero : next ≡ 0 + length (spelled records) + 5 + length bytes = omega (arith, place) in
      let gates_are : gates ++ next ∷ [] ≡ gates_from 0 (records ++ bytes ∷ []) =
      ap (λ (l : List ℕ). l ++ next ∷ []) s.gates_are ∙ ap (λ (n : ℕ). gates_from 0 records ++ n ∷ []) from_zero ∙ sym (gates_push 0 records bytes) in
      settles seen may_leave (records ++ bytes ∷ []) new (gates ++ next ∷ []) gates_are (short_push records bytes s.short short) (omega (arith, room, place, length_push records bytes)) durable
      (λ held told.
      let h = mapped_from (overwritten (length (spelled records)) (1 ∷ [])) (seen mid).bytes (seen new).bytes held writes.bytes told in
      subst (IsAtRest (records ++ bytes ∷ [])) (sym h.2) (gate_opened records bytes h.0 (whole h.0 h.1)))
