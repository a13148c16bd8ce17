-- Reading a disk piece by piece.
use Rattle.std.proofs.Common.{◌≡◌, ℕ, ◌+◌, ◌≤◌, List, ◌++◌, length, take, drop, refl, sym, ◌∙◌, ap, arith, append_assoc, length-append, take-append-drop}
use Rattle.std.proofs.lemmas.List.{take_at, take-take, drop-take, drop-drop, length-take-le}
use Rattle.fluid_disk.specs.Disk.{Stored, StaysAsRead, Elapses}
use Rattle.fluid_disk.specs.Files.{OnlyReads}
use Rattle.fluid_disk.proofs.Moments.{started, goes_on, chained, weaker}

-- a prefix, and the prefix of what stands behind it
pub take_add : (a b : ℕ) (xs : List ℕ) → take (a + b) xs ≡ take a xs ++ take b (drop a xs)
take_add a b xs =
    sym (take-append-drop a (take (a + b) xs)) ∙ ap (λ (l : List ℕ). l ++ drop a (take (a + b) xs)) (take-take a (a + b) xs (omega arith))
    ∙ ap (λ (l : List ℕ). take a xs ++ l) (drop-take a b xs)

-- n more bytes were read behind those that were
pub filled_more : (done n at : ℕ) (held before rest : List ℕ) → take done before ≡ take done (drop at held) → done ≤ length before → n ≤ length (drop (at + done) held)
    → take (done + n) (take done before ++ (take n (drop (at + done) held) ++ rest)) ≡ take (done + n) (drop at held)
filled_more done n at held before rest so_far within there =
    let prefix = take done before in
    let more = take n (drop (at + done) held) in
    let size : length (prefix ++ more) ≡ done + n = omega (arith, length-append prefix more, length-take-le done before within, length-take-le n (drop (at + done) held) there) in
    ap (λ (l : List ℕ). take (done + n) l) (sym (append_assoc prefix more rest)) ∙ take_at (prefix ++ more) rest (done + n) size
    ∙ ap (λ (l : List ℕ). l ++ more) so_far ∙ ap (λ (l : List ℕ). take done (drop at held) ++ take n l) (sym (drop-drop done at held)) ∙ sym (take_add done n (drop at held))

-- the same of a part of the buffer that was lent
pub put_filled : (done n at : ℕ) (held into new tail post : List ℕ) → new ≡ take n (drop (at + done) held) ++ tail → take done into ≡ take done (drop at held) → done ≤ length into → n ≤ length (drop (at + done) held)
    → take (done + n) (take done into ++ (new ++ post)) ≡ take (done + n) (drop at held)
put_filled done n at held into new tail post is so_far within there =
    ap (λ (l : List ℕ). take (done + n) (take done into ++ l)) (ap (λ (l : List ℕ). l ++ post) is ∙ append_assoc (take n (drop (at + done) held)) tail post)
    ∙ filled_more done n at held into (tail ++ post) so_far within there

module _ {D : Type 0} (seen : D → Stored) (may_leave : D → List ℕ → Type 0) (moment : D → ℕ) (left_since : D → ℕ → List ℕ → Type 0) where
  pub reads_none : (disk : D) → ((image : List ℕ) → left_since disk (moment disk) image → may_leave disk image) → OnlyReads seen may_leave moment left_since disk disk
  reads_none disk here = record {
    same = record { bytes = refl; size = refl };
    fewer = λ image now. now;
    since = started moment left_since disk (may_leave disk) here;
  }

  pub reads_more : (old mid new : D) → OnlyReads seen may_leave moment left_since old mid → StaysAsRead (seen mid) (seen new) → ((image : List ℕ) → may_leave new image → may_leave mid image)
      → Elapses (moment mid) (moment new) (left_since mid) (left_since new) (may_leave new) → OnlyReads seen may_leave moment left_since old new
  reads_more old mid new so_far same fewer time = record {
    same = record { bytes = same.bytes ∙ so_far.same.bytes; size = same.size ∙ so_far.same.size };
    fewer = λ image now. so_far.fewer image (fewer image now);
    since = goes_on moment left_since old mid new (may_leave old) (may_leave new) so_far.since time (λ image now. so_far.fewer image (fewer image now));
  }

  pub reads_both : (old mid new : D) → OnlyReads seen may_leave moment left_since old mid → OnlyReads seen may_leave moment left_since mid new → OnlyReads seen may_leave moment left_since old new
  reads_both old mid new one two = record {
    same = record { bytes = two.same.bytes ∙ one.same.bytes; size = two.same.size ∙ one.same.size };
    fewer = λ image now. one.fewer image (two.fewer image now);
    since = chained moment left_since old mid new (may_leave old) one.since (weaker moment left_since mid new (may_leave mid) (may_leave old) one.fewer two.since);
  }
