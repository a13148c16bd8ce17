-- The walk over the records of a disk.
use Rattle.std.proofs.Common.{◌≡◌, ◌≢◌, inl, inr, ℕ, zero, suc, ◌+◌, ◌-◌, ◌<◌, ◌≤◌, min, List, [], ◌∷◌, ◌++◌, length, get_or, take, drop, replicate, refl, sym, ◌∙◌, ap, subst, arith, append_assoc, length-append, length-drop, length-take, take-append-drop}
use Rattle.std.specs.Prelude.{Option, None, Some, IfSome, ◌^◌}
use Rattle.std.specs.Int.{w32, to_be_bytes, from_be_bytes}
use Rattle.std.specs.List.{AllByRecursion}
use Rattle.std.proofs.lemmas.List.{take_at, drop_at, drop_all, drop-take, drop-drop, length-replicate, length-take-le}
use Rattle.std.proofs.lemmas.Nat.{be_bytes_4, from_be_bytes-to_be_bytes_4}
use Rattle.fluid_io.specs.Causes.{Tells}
use Rattle.fluid_disk.specs.Disk.{Stored, StaysAsRead}
use Rattle.fluid_disk.specs.Records.{IsShort, framed, spelled, gates_from, IsEnd, Finds, IsHeadless, HasHead, IsHead}
use Rattle.fluid_disk.specs.Files.{OnlyReads, IsWalked, IsAhead, ReadsClosed}
use Rattle.fluid_disk.proofs.Kept.{ordered}
use Rattle.fluid_disk.proofs.Pieces.{take_add, reads_none, reads_both}
use Rattle.fluid_disk.proofs.Resting.{short_push}
use Rattle.fluid_disk.proofs.Rows.{gates_push, length_push, spelled_push}
use Rattle.fluid_disk.proofs.Standing.{tells_from, tells_at}

-- ---- heads

-- the length that was read behind an open gate
four_fit : (a b c d : ℕ) → a < 256 → b < 256 → c < 256 → d < 256 → (i : ℕ) → get_or (a ∷ b ∷ c ∷ d ∷ []) i 0 < 256
four_fit a b c d one two three four zero = one
four_fit a b c d one two three four (suc zero) = two
four_fit a b c d one two three four (suc (suc zero)) = three
four_fit a b c d one two three four (suc (suc (suc zero))) = four
four_fit a b c d one two three four (suc (suc (suc (suc i)))) = omega arith

pub head_read : (bytes : List ℕ) (n : ℕ) → 5 ≤ length bytes → get_or bytes 0 0 ≡ 1 → ((i : ℕ) → get_or bytes i 0 < 256)
    → n ≡ from_be_bytes w32 (get_or bytes 1 0 ∷ get_or bytes 2 0 ∷ get_or bytes 3 0 ∷ get_or bytes 4 0 ∷ []) → HasHead bytes n
head_read [] n long is_open fits is = absurd (omega (arith, long))
head_read (g ∷ []) n long is_open fits is = absurd (omega (arith, long))
head_read (g ∷ a ∷ []) n long is_open fits is = absurd (omega (arith, long))
head_read (g ∷ a ∷ b ∷ []) n long is_open fits is = absurd (omega (arith, long))
head_read (g ∷ a ∷ b ∷ c ∷ []) n long is_open fits is = absurd (omega (arith, long))
head_read (g ∷ a ∷ b ∷ c ∷ d ∷ behind) n long is_open fits is = record {
  short = omega (arith, is, fits 1, fits 2, fits 3, fits 4);
  behind = behind;
  splits = ap (λ (gate : ℕ). gate ∷ (a ∷ b ∷ c ∷ d ∷ behind)) is_open
      ∙ ap (λ (l : List ℕ). 1 ∷ (l ++ behind)) (sym (be_bytes_4 (a ∷ b ∷ c ∷ d ∷ []) n refl (four_fit a b c d (fits 1) (fits 2) (fits 3) (fits 4)) is));
}

-- a piece that is long enough shows the head that stands there
headless_more : (m : ℕ) (all : List ℕ) → min 5 (length all) ≤ m → IsHeadless (take m all) → IsHeadless all
headless_more m [] long none = tt
headless_more zero (gate ∷ behind) long none = absurd (omega (arith, long))
headless_more (suc k) (gate ∷ behind) long none = λ is_open four. none is_open (omega (arith, length-take k behind, long, four))

head_more : (m : ℕ) (all : List ℕ) (count : ℕ) → HasHead (take m all) count → HasHead all count
head_more m all count has = record {
  short = has.short;
  behind = has.behind ++ drop m all;
  splits = sym (take-append-drop m all) ∙ ap (λ (l : List ℕ). l ++ drop m all) has.splits ∙ ap (λ (l : List ℕ). 1 ∷ l) (append_assoc (to_be_bytes w32 count) has.behind (drop m all));
}

pub is_head_more : (m : ℕ) (all : List ℕ) (count : Option ℕ) → min 5 (length all) ≤ m → IsHead (take m all) count → IsHead all count
is_head_more m all None long none = headless_more m all long none
is_head_more m all (Some count) long has = head_more m all count has

pub head_short : (bytes : List ℕ) (count : Option ℕ) → IsHead bytes count → IfSome count (λ n. n < 2 ^ 32)
head_short bytes None none = tt
head_short bytes (Some count) has = has.short

-- what was read from a place on, of bytes that were read from an earlier one
pub later_piece : (start place : ℕ) (bytes held : List ℕ) → bytes ≡ take (length bytes) (drop start held) → start ≤ place → place ≤ start + length bytes
    → drop (place - start) bytes ≡ take (start + length bytes - place) (drop place held)
later_piece start place bytes held is behind within =
    let a = place - start in
    let m = start + length bytes - place in
    let both : length bytes ≡ a + m = omega arith in
    let there : start + a ≡ place = omega arith in
    ap (λ (l : List ℕ). drop a l) (is ∙ ap (λ (n : ℕ). take n (drop start held)) both) ∙ drop-take a m (drop start held)
    ∙ ap (λ (l : List ℕ). take m l) (drop-drop a start held ∙ ap (λ (n : ℕ). drop n held) there)

-- as much of it as a head needs
pub rest_there : (start place : ℕ) (bytes held : List ℕ) → bytes ≡ take (length bytes) (drop start held) → start ≤ place → place ≤ length held
    → min 5 (length held - place) ≤ length bytes - (place - start) → (m : ℕ) × (drop (place - start) bytes ≡ take m (drop place held)) × (min 5 (length (drop place held)) ≤ m)
rest_there start place bytes held is behind within long = elim (ordered place (start + length bytes)) [
  | inl inside ↦ (start + length bytes - place, later_piece start place bytes held is behind inside, omega (arith, long, length-drop place held, inside, behind))
  | inr past ↦ (0, drop_all (place - start) bytes (omega (arith, past)), omega (arith, long, length-drop place held, past, behind))
]

-- what was read ahead, and one piece more
pub ahead_more : (start place count : ℕ) (bytes rest next : List ℕ) (disk : Stored) → IsAhead start bytes disk → start ≤ place → rest ≡ drop (place - start) bytes
    → length next ≡ count → place + length rest + count ≤ disk.size → ((held : List ℕ) → disk.bytes ≡ Some held → next ≡ take count (drop (place + length rest) held))
    → IsAhead place (rest ++ next) disk
ahead_more start place count bytes rest next disk ahead behind is size fits reads = record {
  within = omega (arith, length-append rest next, size, fits);
  told = tells_from disk.bytes (λ held. rest ++ next ≡ take (length (rest ++ next)) (drop place held)) (λ held told.
      let before = tells_at disk.bytes (λ held. bytes ≡ take (length bytes) (drop start held)) held told ahead.told in
      let first : rest ≡ take (length rest) (drop place held) = elim (ordered place (start + length bytes)) [
        | inl within ↦
            let n : length rest ≡ start + length bytes - place = omega (arith, ap length is, length-drop (place - start) bytes, behind) in
            is ∙ later_piece start place bytes held before behind within ∙ ap (λ (k : ℕ). take k (drop place held)) (sym n)
        | inr past ↦
            let none : rest ≡ [] = is ∙ drop_all (place - start) bytes (omega (arith, past)) in
            none ∙ ap (λ (l : List ℕ). take (length l) (drop place held)) (sym none)
      ] in
      let second : next ≡ take count (drop (length rest) (drop place held)) = reads held told ∙ ap (λ (l : List ℕ). take count l) (sym (drop-drop (length rest) place held)) in
      let whole : length (rest ++ next) ≡ length rest + count = omega (arith, length-append rest next, size) in
      ap (λ (l : List ℕ). l ++ next) first ∙ ap (λ (l : List ℕ). take (length rest) (drop place held) ++ l) second ∙ sym (take_add (length rest) count (drop place held))
      ∙ ap (λ (k : ℕ). take k (drop place held)) (sym whole));
}

-- nothing changed but the count of faults
pub ahead_quiet : (start : ℕ) (bytes : List ℕ) (old new : Stored) → StaysAsRead old new → IsAhead start bytes old → IsAhead start bytes new
ahead_quiet start bytes old new same ahead = record {
  within = omega (arith, ahead.within, same.size);
  told = subst (λ (o : Option (List ℕ)). Tells o (λ held. bytes ≡ take (length bytes) (drop start held))) (sym same.bytes) ahead.told;
}

-- a closed gate that was read
pub closes : (records : List (List ℕ)) (place start : ℕ) (bytes held rest : List ℕ) → held ≡ spelled records ++ drop place held → bytes ≡ take (length bytes) (drop start held) → start ≤ place
    → drop (place - start) bytes ≡ 0 ∷ rest → ReadsClosed records held
closes records place start bytes held rest splits is behind read =
    let within : place ≤ start + length bytes = omega (arith, ap length read, length-drop (place - start) bytes, behind) in
    let m = start + length bytes - place in
    let first : take m (drop place held) ≡ 0 ∷ rest = sym (later_piece start place bytes held is behind within) ∙ read in
    record {
      behind = rest ++ drop m (drop place held);
      splits = splits ∙ ap (λ (l : List ℕ). spelled records ++ l) (sym (take-append-drop m (drop place held)) ∙ ap (λ (l : List ℕ). l ++ drop m (drop place held)) first);
    }

-- ---- the loop

-- the record of so many bytes at a place; of a disk that doesn't tell its bytes its length is all that is known
abbrev pub record_at : Option (List ℕ) → ℕ → ℕ → List ℕ
record_at None at count = replicate count 0
record_at (Some held) at count = take count (drop at held)

length-record_at : (told : Option (List ℕ)) (at count size : ℕ) → Tells told (λ held. size ≡ length held) → at + count ≤ size → length (record_at told at count) ≡ count
length-record_at None at count size sized le = length-replicate count 0
length-record_at (Some held) at count size sized le = length-take-le count (drop at held) (omega (arith, length-drop at held, sized, le))

-- the records so far, and the place behind them
pub record IsWalking (records : List (List ℕ)) (gates : List ℕ) (place : ℕ) (disk : Stored) : Type 0 where
  pub gates_are : gates ≡ gates_from 0 records
  pub short : AllByRecursion IsShort records
  pub place_is : place ≡ length (spelled records)
  pub within : place ≤ disk.size
  pub splits : (held : List ℕ) → disk.bytes ≡ Some held → held ≡ spelled records ++ drop place held

pub walking_first : (disk : Stored) → IsWalking [] (0 ∷ []) 0 disk
walking_first disk = record { gates_are = refl; short = tt; place_is = refl; within = omega arith; splits = λ held told. refl }

pub walking_more : (records : List (List ℕ)) (gates : List ℕ) (place count : ℕ) (disk : Stored) → IsWalking records gates place disk → Tells disk.bytes (λ held. disk.size ≡ length held)
    → ((held : List ℕ) → disk.bytes ≡ Some held → HasHead (drop place held) count) → count < 2 ^ 32 → place + 5 + count ≤ disk.size
    → IsWalking (records ++ record_at disk.bytes (place + 5) count ∷ []) (gates ++ (place + 5 + count) ∷ []) (place + 5 + count) disk
walking_more records gates place count disk so_far sized head short fits =
    let one = record_at disk.bytes (place + 5) count in
    let size : length one ≡ count = length-record_at disk.bytes (place + 5) count disk.size sized fits in
    let next : place + 5 + count ≡ 0 + length (spelled records) + 5 + length one = omega (arith, so_far.place_is, size) in
    record {
      gates_are = ap (λ (l : List ℕ). l ++ (place + 5 + count) ∷ []) so_far.gates_are ∙ ap (λ (n : ℕ). gates_from 0 records ++ n ∷ []) next ∙ sym (gates_push 0 records one);
      short = short_push records one so_far.short (omega (arith, size, short));
      place_is = omega (arith, so_far.place_is, size, length_push records one);
      within = fits;
      splits = λ held told.
          let has = head held told in
          let is : one ≡ take count (drop (place + 5) held) = ap (λ (o : Option (List ℕ)). record_at o (place + 5) count) told in
          let four : drop (place + 5) held ≡ has.behind =
          sym (drop-drop 5 place held) ∙ ap (λ (l : List ℕ). drop 5 l) has.splits ∙ drop_at (to_be_bytes w32 count) has.behind 4 refl in
          let behind : has.behind ≡ one ++ drop (place + 5 + count) held =
          sym four ∙ sym (take-append-drop count (drop (place + 5) held)) ∙ ap (λ (l : List ℕ). l ++ drop count (drop (place + 5) held)) (sym is)
          ∙ ap (λ (l : List ℕ). one ++ l) (drop-drop count (place + 5) held) in
          let frame : to_be_bytes w32 count ++ (one ++ drop (place + 5 + count) held) ≡ framed one ++ drop (place + 5 + count) held =
          sym (append_assoc (to_be_bytes w32 count) one (drop (place + 5 + count) held)) ∙ ap (λ (n : ℕ). (to_be_bytes w32 n ++ one) ++ drop (place + 5 + count) held) (sym size) in
          so_far.splits held told ∙ ap (λ (l : List ℕ). spelled records ++ l) (has.splits ∙ ap (λ (l : List ℕ). 1 ∷ (to_be_bytes w32 count ++ l)) behind ∙ ap (λ (l : List ℕ). 1 ∷ l) frame)
          ∙ sym (spelled_push records one (drop (place + 5 + count) held));
    }

-- ---- the end

headless_end : (bytes : List ℕ) → IsHeadless bytes → IsEnd bytes
headless_end [] none = tt
headless_end (gate ∷ behind) none = λ is_open whole. none is_open whole.length_stands

long_end : (bytes : List ℕ) (count : ℕ) → HasHead bytes count → length bytes < 5 + count → IsEnd bytes
long_end bytes count has long =
    let is : IsEnd (1 ∷ (to_be_bytes w32 count ++ has.behind)) = λ is_open whole.
    let number : from_be_bytes w32 (take 4 (to_be_bytes w32 count ++ has.behind)) ≡ count =
    ap (λ (l : List ℕ). from_be_bytes w32 l) (take_at (to_be_bytes w32 count) has.behind 4 refl) ∙ from_be_bytes-to_be_bytes_4 count has.short in
    omega (arith, whole.bytes_stand, number, ap length has.splits, long) in
    subst IsEnd (sym has.splits) is

walked : (records : List (List ℕ)) (gates : List ℕ) (place : ℕ) (disk : Stored) → IsWalking records gates place disk → ((held : List ℕ) → disk.bytes ≡ Some held → IsEnd (drop place held)) → IsWalked records gates disk
walked records gates place disk so_far ends = record {
  gates_are = so_far.gates_are;
  short = so_far.short;
  within = omega (arith, so_far.place_is, so_far.within);
  finds = tells_from disk.bytes (Finds records) (λ held told. record { short = so_far.short; end = drop place held; splits = so_far.splits held told; ends = ends held told });
}

pub walked_headless : (records : List (List ℕ)) (gates : List ℕ) (place : ℕ) (disk : Stored) → IsWalking records gates place disk
    → ((held : List ℕ) → disk.bytes ≡ Some held → IsHeadless (drop place held)) → IsWalked records gates disk
walked_headless records gates place disk so_far none = walked records gates place disk so_far (λ held told. headless_end (drop place held) (none held told))

pub walked_long : (records : List (List ℕ)) (gates : List ℕ) (place count : ℕ) (disk : Stored) → IsWalking records gates place disk → Tells disk.bytes (λ held. disk.size ≡ length held)
    → ((held : List ℕ) → disk.bytes ≡ Some held → HasHead (drop place held) count) → disk.size < place + 5 + count → IsWalked records gates disk
walked_long records gates place count disk so_far sized head long =
    walked records gates place disk so_far (λ held told.
    long_end (drop place held) count (head held told) (omega (arith, length-drop place held, tells_at disk.bytes (λ b. disk.size ≡ length b) held told sized, long)))

-- how far a walk is, with what was read ahead of it
pub record IsWalkingOn {D : Type 0} (seen : D → Stored) (may_leave : D → List ℕ → Type 0) (moment : D → ℕ) (left_since : D → ℕ → List ℕ → Type 0) (old new : D) (gates : List ℕ) (place start : ℕ) (bytes : List ℕ) : Type 0 where
  pub records : List (List ℕ)
  pub walking : IsWalking records gates place (seen old)
  pub reads : OnlyReads seen may_leave moment left_since old new
  pub faults : (seen old).faults ≤ (seen new).faults
  pub ahead : IsAhead start bytes (seen new)
  pub behind : start ≤ place

module _ {D : Type 0} (seen : D → Stored) (may_leave : D → List ℕ → Type 0) (moment : D → ℕ) (left_since : D → ℕ → List ℕ → Type 0) where
  pub walking_on_first : (disk : D) → ((image : List ℕ) → left_since disk (moment disk) image → may_leave disk image)
      → IsWalkingOn seen may_leave moment left_since disk disk (0 ∷ []) 0 0 []
  walking_on_first disk here = record {
    records = [];
    walking = walking_first (seen disk);
    reads = reads_none seen may_leave moment left_since disk here;
    faults = omega arith;
    ahead = record { within = omega arith; told = tells_from (seen disk).bytes (λ held. [] ≡ take 0 (drop 0 held)) (λ held told. refl) };
    behind = omega arith;
  }

  pub walking_on_more : (old mid new : D) (gates : List ℕ) (place start count next_start : ℕ) (bytes next_bytes : List ℕ) → IsWalkingOn seen may_leave moment left_since old mid gates place start bytes
      → Tells (seen old).bytes (λ held. (seen old).size ≡ length held) → OnlyReads seen may_leave moment left_since mid new → (seen mid).faults ≤ (seen new).faults
      → IsAhead next_start next_bytes (seen new) → next_start ≤ place
      → ((held : List ℕ) → (seen mid).bytes ≡ Some held → HasHead (drop place held) count) → count < 2 ^ 32 → place + 5 + count ≤ (seen old).size
      → IsWalkingOn seen may_leave moment left_since old new (gates ++ (place + 5 + count) ∷ []) (place + 5 + count) next_start next_bytes
  walking_on_more old mid new gates place start count next_start bytes next_bytes so_far sized reads later ahead behind head short fits = record {
    records = so_far.records ++ record_at (seen old).bytes (place + 5) count ∷ [];
    walking = walking_more so_far.records gates place count (seen old) so_far.walking sized (λ held told. head held (so_far.reads.same.bytes ∙ told)) short fits;
    reads = reads_both seen may_leave moment left_since old mid new so_far.reads reads;
    faults = omega (arith, so_far.faults, later);
    ahead = ahead;
    behind = omega (arith, behind);
  }
