-- What a file stands for while it is cut and repaired.
use Rattle.std.proofs.Common.{◌≡◌, ◌≢◌, inl, inr, ℕ, suc, ◌+◌, ◌<◌, ◌≤◌, min, List, [], ◌∷◌, length, get_or, take, drop, refl, sym, ◌∙◌, ap, subst, arith, length-append}
use Rattle.std.specs.Prelude.{Some}
use Rattle.fluid_io.specs.Causes.{Tells}
use Rattle.fluid_disk.specs.declared.owed.Owed.{Owed}
use Rattle.fluid_disk.specs.declared.owed.Owed.TheVariants as debts
use Rattle.fluid_disk.specs.Disk.{Stored, Torn, Cut, Only, IsDurable, LeavesOnly, StaysAsRead, StaysAtLeast, Overwrites, CutsOff, overwritten}
use Rattle.fluid_disk.specs.Records.{IsShort, spelled, gate_before, IsAtRest}
use Rattle.fluid_disk.specs.Files.{Nothing, Appending, Cutting, Row, settled, appending, cutting, Keeps, Stands, IsAtRestBut}
use Rattle.fluid_disk.proofs.Adding.{owing_is, appending_some}
use Rattle.fluid_disk.proofs.Moments.{weaker, left_behind}
use Rattle.fluid_disk.proofs.Standing.{at_rest, only, settles, owes, told_before, mapped_from, tells_from, tells_at}
use Rattle.fluid_disk.proofs.Resting.{IsStaged, staged_last, gate_of_rest, gate_of_staged, gate_torn, gate_closed, cut_behind, reopened, but_torn, cut_off, short_take}
use Rattle.fluid_disk.proofs.Rows.{take_gates, spelled_split}

cutting_some : (count : ℕ) → Cutting count ≢ Nothing
cutting_some count is = let wrong : 1 ≡ 0 = ap owing_is is in absurd (omega (arith, wrong))

-- a gate further in front stands further in front
pub prefix_shorter : (n : ℕ) (records : List (List ℕ)) → gate_before n records ≤ length (spelled records)
prefix_shorter n records = omega (arith, ap length (spelled_split n records), length-append (spelled (take n records)) (spelled (drop n records)))

-- ---- which gate an append that failed left

pub open_staged : (records : List (List ℕ)) (bytes held : List ℕ) → Keeps records (Appending bytes) held → get_or held (length (spelled records)) 0 ≡ 1 → IsStaged records bytes held
open_staged records bytes held (inl rest) is_open = absurd (rest.closed (sym (gate_of_rest records held rest) ∙ is_open))
open_staged records bytes held (inr rest) is_open = staged_last records bytes held rest

pub shut_rest : (records : List (List ℕ)) (bytes held : List ℕ) → Keeps records (Appending bytes) held → get_or held (length (spelled records)) 0 ≢ 1 → IsAtRest records held
shut_rest records bytes held (inl rest) shut = rest
shut_rest records bytes held (inr rest) shut = absurd (shut (gate_of_staged records bytes held rest))

module _ {D : Type 0} (seen : D → Stored) (may_leave : D → List ℕ → Type 0) (moment : D → ℕ) (left_since : D → ℕ → List ℕ → Type 0) where
  -- ---- calls that change nothing of what a read gives

  pub quieter : (row : Row) (old new : D) (gates : List ℕ) (owed : Owed) → StaysAsRead (seen old) (seen new) → ((image : List ℕ) → may_leave new image → may_leave old image)
      → Stands seen may_leave row old gates owed → Stands seen may_leave row new gates owed
  quieter row old new gates owed same fewer s = record {
    gates_are = s.gates_are;
    short = s.short;
    fits = s.fits;
    noted = s.noted;
    room = subst (λ n. length (spelled row.records) < n) (sym same.size) s.room;
    keeps = tells_from (seen new).bytes _ (λ held told image now. tells_at (seen old).bytes _ held (sym same.bytes ∙ told) s.keeps image (fewer image now));
    durable = λ nothing. tells_from (seen new).bytes (λ b. Only b (may_leave new)) (λ held told image now.
        tells_at (seen old).bytes (λ b. Only b (may_leave old)) held (sym same.bytes ∙ told) (s.durable nothing) image (fewer image now));
  }

  pub reads_run : (row : Row) (old new : D) (gates : List ℕ) (owed : Owed) (held : List ℕ) → (seen old).bytes ≡ Some held → Stands seen may_leave row old gates owed
      → LeavesOnly moment left_since old new (may_leave old) → LeavesOnly moment left_since old new (Keeps row.records row.owing)
  reads_run row old new gates owed held told s run =
      weaker moment left_since old new (may_leave old) (Keeps row.records row.owing) (λ image now. tells_at (seen old).bytes _ held told s.keeps image now) run

  -- what a read gives is one of the images
  pub reads_kept : (row : Row) (disk : D) (gates : List ℕ) (owed : Owed) (held : List ℕ) → (seen disk).bytes ≡ Some held → Tells (seen disk).bytes (may_leave disk)
      → Stands seen may_leave row disk gates owed → Keeps row.records row.owing held
  reads_kept row disk gates owed held told leaves s = tells_at (seen disk).bytes _ held told s.keeps held (tells_at (seen disk).bytes (may_leave disk) held told leaves)

  pub alone : (disk : D) (held : List ℕ) → (seen disk).bytes ≡ Some held → IsDurable (seen disk) (may_leave disk) → Only held (may_leave disk)
  alone disk held told durable = tells_at (seen disk).bytes (λ b. Only b (may_leave disk)) held told durable

  pub quiet_durable : (old new : D) → StaysAsRead (seen old) (seen new) → ((image : List ℕ) → may_leave new image → may_leave old image) → IsDurable (seen old) (may_leave old) → IsDurable (seen new) (may_leave new)
  quiet_durable old new same fewer durable =
      tells_from (seen new).bytes (λ b. Only b (may_leave new)) (λ held told image now. alone old held (sym same.bytes ∙ told) durable image (fewer image now))

  -- ---- cutting

  pub drop_failed : (records : List (List ℕ)) (count : ℕ) (old new : D) (gates : List ℕ) (owed : Owed) → Stands seen may_leave (settled records) old gates owed
      → Tells (seen old).bytes (may_leave old) → ((t : ℕ) (image : List ℕ) → t ≤ moment new → may_leave new image → left_since new t image)
      → count < length records → StaysAtLeast (seen old).size (seen old) (seen new)
      → ((held : List ℕ) → (seen old).bytes ≡ Some held → Only held (may_leave old) → LeavesOnly moment left_since old new (Torn (gate_before count records) 1 held))
      → Stands seen may_leave (cutting records count) new gates (debts.Cut count)
  drop_failed records count old new gates owed s leaves counts below stays run =
      owes seen may_leave (cutting records count) new gates (debts.Cut count) s.gates_are s.short below refl (omega (arith, s.room, stays.no_shorter)) (cutting_some count)
      (λ now_held told image now.
      let h = told_before (seen old).bytes (seen new).bytes now_held stays.told told in
      let rest = at_rest seen may_leave records old gates owed h.0 s leaves h.1 in
      let torn = left_behind moment left_since old new (Torn (gate_before count records) 1 h.0) (may_leave new) (run h.0 h.1 (only seen may_leave records old gates owed h.0 s h.1)) counts image now in
      record { whole = h.0; rest = rest; torn = torn })

  pub drop_run : (records : List (List ℕ)) (count : ℕ) (held : List ℕ) (old new : D) → IsAtRest records held
      → LeavesOnly moment left_since old new (Torn (gate_before count records) 1 held) → LeavesOnly moment left_since old new (Keeps records (Cutting count))
  drop_run records count held old new rest run =
      weaker moment left_since old new (Torn (gate_before count records) 1 held) (Keeps records (Cutting count)) (λ image torn. record { whole = held; rest = rest; torn = torn }) run

  pub dropped : (records : List (List ℕ)) (count : ℕ) (old new : D) (gates : List ℕ) (owed : Owed) → Stands seen may_leave (settled records) old gates owed
      → Tells (seen old).bytes (may_leave old) → count < length records → (seen old).size ≤ (seen new).size
      → Overwrites (gate_before count records) (0 ∷ []) (seen old) (seen new) → IsDurable (seen new) (may_leave new)
      → Stands seen may_leave (settled (take count records)) new (take (suc count) gates) debts.Nothing
  dropped records count old new gates owed s leaves below longer writes durable =
      settles seen may_leave (take count records) new (take (suc count) gates)
      (ap (λ (l : List ℕ). take (suc count) l) s.gates_are ∙ take_gates 0 count records (omega (arith, below))) (short_take count records s.short)
      (omega (arith, prefix_shorter count records, s.room, longer)) durable
      (λ held told.
      let h = mapped_from (overwritten (gate_before count records) (0 ∷ [])) (seen old).bytes (seen new).bytes held writes.bytes told in
      subst (IsAtRest (take count records)) (sym h.2) (cut_off count records h.0 below (at_rest seen may_leave records old gates owed h.0 s leaves h.1)))

  -- ---- the repair of a cut

  pub reopen_failed : (records : List (List ℕ)) (count : ℕ) (old new : D) (gates : List ℕ) → Stands seen may_leave (cutting records count) old gates (debts.Cut count)
      → Tells (seen old).bytes (may_leave old) → ((t : ℕ) (image : List ℕ) → t ≤ moment new → may_leave new image → left_since new t image)
      → StaysAtLeast (seen old).size (seen old) (seen new) → IsDurable (seen old) (may_leave old)
      → ((held : List ℕ) → (seen old).bytes ≡ Some held → Only held (may_leave old) → LeavesOnly moment left_since old new (Torn (gate_before count records) 1 held))
      → Stands seen may_leave (cutting records count) new gates (debts.Cut count)
  reopen_failed records count old new gates s leaves counts stays durable run =
      owes seen may_leave (cutting records count) new gates (debts.Cut count) s.gates_are s.short s.fits refl (omega (arith, s.room, stays.no_shorter)) (cutting_some count)
      (λ now_held told image now.
      let h = told_before (seen old).bytes (seen new).bytes now_held stays.told told in
      let but = reads_kept (cutting records count) old gates (debts.Cut count) h.0 h.1 leaves s in
      but_torn count records h.0 image but (left_behind moment left_since old new (Torn (gate_before count records) 1 h.0) (may_leave new) (run h.0 h.1 (alone old h.0 h.1 durable)) counts image now))

  pub reopen_run : (records : List (List ℕ)) (count : ℕ) (held : List ℕ) (old new : D) → IsAtRestBut count records held
      → LeavesOnly moment left_since old new (Torn (gate_before count records) 1 held) → LeavesOnly moment left_since old new (Keeps records (Cutting count))
  reopen_run records count held old new but run =
      weaker moment left_since old new (Torn (gate_before count records) 1 held) (Keeps records (Cutting count)) (λ image torn. but_torn count records held image but torn) run

  pub reopened_whole : (records : List (List ℕ)) (count : ℕ) (old new : D) (gates : List ℕ) → Stands seen may_leave (cutting records count) old gates (debts.Cut count)
      → Tells (seen old).bytes (may_leave old) → (seen old).size ≤ (seen new).size
      → Overwrites (gate_before count records) (1 ∷ []) (seen old) (seen new) → IsDurable (seen new) (may_leave new)
      → Stands seen may_leave (settled records) new gates debts.Nothing
  reopened_whole records count old new gates s leaves longer writes durable =
      settles seen may_leave records new gates s.gates_are s.short (omega (arith, s.room, longer)) durable
      (λ held told.
      let h = mapped_from (overwritten (gate_before count records) (1 ∷ [])) (seen old).bytes (seen new).bytes held writes.bytes told in
      subst (IsAtRest records) (sym h.2) (reopened count records h.0 s.fits (reads_kept (cutting records count) old gates (debts.Cut count) h.0 h.1 leaves s)))

  -- ---- the repair of an append

  pub close_failed : (records : List (List ℕ)) (bytes : List ℕ) (old new : D) (gates : List ℕ) → Stands seen may_leave (appending records bytes) old gates debts.Append
      → ((t : ℕ) (image : List ℕ) → t ≤ moment new → may_leave new image → left_since new t image)
      → StaysAtLeast (seen old).size (seen old) (seen new) → IsDurable (seen old) (may_leave old)
      → ((held : List ℕ) → (seen old).bytes ≡ Some held → IsStaged records bytes held)
      → ((held : List ℕ) → (seen old).bytes ≡ Some held → Only held (may_leave old) → LeavesOnly moment left_since old new (Torn (length (spelled records)) 1 held))
      → Stands seen may_leave (appending records bytes) new gates debts.Append
  close_failed records bytes old new gates s counts stays durable whole run =
      owes seen may_leave (appending records bytes) new gates debts.Append s.gates_are s.short s.fits refl (omega (arith, s.room, stays.no_shorter)) (appending_some bytes)
      (λ now_held told image now.
      let h = told_before (seen old).bytes (seen new).bytes now_held stays.told told in
      gate_torn records bytes h.0 image (whole h.0 h.1) (left_behind moment left_since old new (Torn (length (spelled records)) 1 h.0) (may_leave new) (run h.0 h.1 (alone old h.0 h.1 durable)) counts image now))

  pub close_run : (records : List (List ℕ)) (bytes held : List ℕ) (old new : D) → IsStaged records bytes held
      → LeavesOnly moment left_since old new (Torn (length (spelled records)) 1 held) → LeavesOnly moment left_since old new (Keeps records (Appending bytes))
  close_run records bytes held old new stands run =
      weaker moment left_since old new (Torn (length (spelled records)) 1 held) (Keeps records (Appending bytes)) (λ image torn. gate_torn records bytes held image stands torn) run

  pub closed : (records : List (List ℕ)) (bytes : List ℕ) (old new : D) (gates : List ℕ) → Stands seen may_leave (appending records bytes) old gates debts.Append
      → (seen old).size ≤ (seen new).size → ((held : List ℕ) → (seen old).bytes ≡ Some held → IsStaged records bytes held)
      → Overwrites (length (spelled records)) (0 ∷ []) (seen old) (seen new) → IsDurable (seen new) (may_leave new)
      → Stands seen may_leave (settled records) new gates debts.Nothing
  closed records bytes old new gates s longer whole writes durable =
      settles seen may_leave records new gates s.gates_are s.short (omega (arith, s.room, longer)) durable
      (λ held told.
      let h = mapped_from (overwritten (length (spelled records)) (0 ∷ [])) (seen old).bytes (seen new).bytes held writes.bytes told in
      subst (IsAtRest records) (sym h.2) (gate_closed records bytes h.0 (whole h.0 h.1)))

  pub shut_settled : (records : List (List ℕ)) (bytes : List ℕ) (disk : D) (gates : List ℕ) → Stands seen may_leave (appending records bytes) disk gates debts.Append
      → ((held : List ℕ) → (seen disk).bytes ≡ Some held → IsAtRest records held) → IsDurable (seen disk) (may_leave disk)
      → Stands seen may_leave (settled records) disk gates debts.Nothing
  shut_settled records bytes disk gates s rest durable = settles seen may_leave records disk gates s.gates_are s.short s.room durable rest

  pub trim_failed : (records : List (List ℕ)) (bytes : List ℕ) (old new : D) (gates : List ℕ) (to : ℕ) → Stands seen may_leave (settled records) old gates debts.Nothing
      → Tells (seen old).bytes (may_leave old) → ((t : ℕ) (image : List ℕ) → t ≤ moment new → may_leave new image → left_since new t image)
      → IsShort bytes → to ≡ length (spelled records) + 1 → StaysAtLeast (min to (seen old).size) (seen old) (seen new)
      → ((held : List ℕ) → (seen old).bytes ≡ Some held → Only held (may_leave old) → LeavesOnly moment left_since old new (Cut to held))
      → Stands seen may_leave (appending records bytes) new gates debts.Append
  trim_failed records bytes old new gates to s leaves counts short place stays run =
      owes seen may_leave (appending records bytes) new gates debts.Append s.gates_are s.short short refl (omega (arith, s.room, stays.no_shorter, place)) (appending_some bytes)
      (λ now_held told image now.
      let h = told_before (seen old).bytes (seen new).bytes now_held stays.told told in
      let rest = at_rest seen may_leave records old gates debts.Nothing h.0 s leaves h.1 in
      inl (cut_behind records h.0 image to place rest
      (left_behind moment left_since old new (Cut to h.0) (may_leave new) (run h.0 h.1 (only seen may_leave records old gates debts.Nothing h.0 s h.1)) counts image now)))

  pub trim_run : (records : List (List ℕ)) (held : List ℕ) (old new : D) (to : ℕ) → IsAtRest records held → to ≡ length (spelled records) + 1
      → LeavesOnly moment left_since old new (Cut to held) → LeavesOnly moment left_since old new (IsAtRest records)
  trim_run records held old new to rest place run =
      weaker moment left_since old new (Cut to held) (IsAtRest records) (λ image cut. cut_behind records held image to place rest cut) run

  pub trimmed : (records : List (List ℕ)) (old new : D) (gates : List ℕ) (to : ℕ) → Stands seen may_leave (settled records) old gates debts.Nothing
      → Tells (seen old).bytes (may_leave old) → to ≡ length (spelled records) + 1 → CutsOff to (seen old) (seen new) → IsDurable (seen new) (may_leave new)
      → Stands seen may_leave (settled records) new gates debts.Nothing
  trimmed records old new gates to s leaves place cuts durable =
      settles seen may_leave records new gates s.gates_are s.short (omega (arith, s.room, cuts.size, place)) durable
      (λ held told.
      let h = mapped_from (take to) (seen old).bytes (seen new).bytes held cuts.bytes told in
      subst (IsAtRest records) (sym h.2) (cut_behind records h.0 (take to h.0) to place (at_rest seen may_leave records old gates debts.Nothing h.0 s leaves h.1) (inr refl)))
