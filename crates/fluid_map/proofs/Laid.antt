-- What is kept beside pending changes stays right as changes come and go.
use Rattle.std.proofs.Common.{◌≡◌, ℕ, suc, ◌+◌, ◌-◌, ◌<◌, ◌≤◌, Bool, true, false, cond, if◌then◌else◌, nat_lt, ◌⊎◌, inl, inr, List, [], ◌∷◌, ◌++◌, length, Option, Some, None, is_some, option_map, bytes_eq, refl, sym, ap, ap₂, subst, ◌∙◌, arith, length-append, append-nil, append_assoc, lt-ltb}
use Rattle.std.specs.Option.{option_or}
use Rattle.std.specs.FinMap.{get, empty, insert, remove, get-empty}
use Rattle.std.proofs.lemmas.Slice.Eq.{bytes_eq-Decides}
use Rattle.fluid_json.specs.Tree.{Tree}
use Rattle.fluid_table.specs.Table as table
use Rattle.fluid_table.specs.Table.{byte_order}
use Rattle.fluid_table.proofs.Places.{get_inserted, get_removed}
use Rattle.fluid_map.specs.declared.operation.MapOp.{MapOp}
use Rattle.fluid_map.specs.declared.operation.MapOp.TheVariants.{Set, Delete, Clear}
use Rattle.fluid_map.specs.declared.pending.Latest.{Latest}
use Rattle.fluid_map.specs.Replay.{says, last_word}
use Rattle.fluid_map.specs.Laid.{changes_of, latest_of, count_of, EndsInClear, AreKeyed, IsLaid}
use Rattle.fluid_map.proofs.Replays.{or_none, last_word-append}

-- ---- what is found

some_of : (n : ℕ) → nat_lt 0 (suc n) ≡ true
some_of n = lt-ltb 0 (suc n) (omega arith)

-- changes of which the last is a clear leave no key a value
word_of_clear : (key : List ℕ) (ops : List MapOp) → EndsInClear ops → last_word key ops ≡ (if nat_lt 0 (length ops) then Some None else None)
word_of_clear key [] ends = refl
word_of_clear key (op ∷ []) ends = ap (says key) ends
word_of_clear key (op ∷ next ∷ ops) ends =
    ap (λ word. option_or word (says key op)) (word_of_clear key (next ∷ ops) ends)
    ∙ ap (λ b. option_or (if b then Some None else None) (says key op)) (some_of (length ops)) ∙ ap (λ b. if b then Some None else None) (sym (some_of (suc (length ops))))

-- what is said of a key is what is kept of it, and else what the clear says
abbrev pub said_by : Option Latest → ℕ → Option (Option Tree)
said_by None cleared = if nat_lt 0 cleared then Some None else None
said_by (Some latest) cleared = Some latest.value

found : (key : List ℕ) (ops : List MapOp) (cleared : ℕ) (word : Option (Option Tree)) → last_word key ops ≡ word → option_or word (if nat_lt 0 cleared then Some None else None) ≡ said_by (latest_of key ops) cleared
found key ops cleared None is = rw is refl
found key ops cleared (Some w) is = rw is refl

pub word_laid : (pending : List MapOp) (cleared : ℕ) (latest : table.Values Latest) (key : List ℕ) → IsLaid pending cleared latest → said_by (get latest key) cleared ≡ last_word key pending
word_laid pending cleared latest key laid =
    ap (λ kept. said_by kept cleared) (laid.kept key)
    ∙ sym (found key laid.later cleared (last_word key laid.later) refl)
    ∙ ap (λ n. option_or (last_word key laid.later) (if nat_lt 0 n then Some None else None)) laid.counted
    ∙ ap (option_or (last_word key laid.later)) (sym (word_of_clear key laid.earlier laid.clear))
    ∙ sym (last_word-append key laid.earlier laid.later)
    ∙ ap (last_word key) (sym laid.parts)

pub none_found : (pending : List MapOp) (cleared : ℕ) (latest : table.Values Latest) (key : List ℕ) → IsLaid pending cleared latest → None ≡ get latest key → cleared ≤ 0 → None ≡ last_word key pending
none_found pending cleared latest key laid none few =
    let zero_is : cleared ≡ 0 = omega (arith, few) in
    ap (λ n. if nat_lt 0 n then Some None else None) (sym zero_is) ∙ ap (λ kept. said_by kept cleared) none ∙ word_laid pending cleared latest key laid

pub cleared_found : (pending : List MapOp) (cleared : ℕ) (latest : table.Values Latest) (key : List ℕ) → IsLaid pending cleared latest → None ≡ get latest key → 0 < cleared → Some None ≡ last_word key pending
cleared_found pending cleared latest key laid none some =
    ap (λ b. if b then Some None else None) (sym (lt-ltb 0 cleared some)) ∙ ap (λ kept. said_by kept cleared) none ∙ word_laid pending cleared latest key laid

-- what is kept of a key of which so many changes speak
abbrev counted_as : ℕ → Option (Option Tree) → Option Latest
counted_as n word = option_map (λ value. record { value = value; changes = n }) word

-- ---- how many changes there are of a key

one_or_none : (b : Bool) → (if b then 1 else 0) ≤ 1
one_or_none true = omega arith
one_or_none false = omega arith

changes-few : (key : List ℕ) (ops : List MapOp) → changes_of key ops ≤ length ops
changes-few key [] = omega arith
changes-few key (op ∷ ops) = omega (arith, one_or_none (is_some (says key op)), changes-few key ops)

changes-append : (key : List ℕ) (earlier later : List MapOp) → changes_of key (earlier ++ later) ≡ changes_of key earlier + changes_of key later
changes-append key [] later = omega arith
changes-append key (op ∷ ops) later = omega (arith, changes-append key ops later)

none_said : (one other : Option (Option Tree)) → option_or one other ≡ None → (one ≡ None) × (other ≡ None)
none_said None None is = (refl, refl)
none_said None (Some w) is = absurd (subst (λ o. cond (is_some o) (Unit {0}) ⊥) is tt)
none_said (Some v) other is = absurd (subst (λ o. cond (is_some o) (Unit {0}) ⊥) is tt)

none_changes : (key : List ℕ) (ops : List MapOp) → last_word key ops ≡ None → changes_of key ops ≡ 0
none_changes key [] is = refl
none_changes key (op ∷ ops) is =
    let both = none_said (last_word key ops) (says key op) is in
    rw (both.1, none_changes key ops both.0) refl

some_changes : (key : List ℕ) (ops : List MapOp) → changes_of key ops ≡ 0 → last_word key ops ≡ None
some_changes key [] is = refl
some_changes key (op ∷ ops) is = some_here key ops (says key op) is (λ rest. some_changes key ops rest)
  where
    some_here : (key : List ℕ) (ops : List MapOp) (w : Option (Option Tree)) → (if is_some w then 1 else 0) + changes_of key ops ≡ 0 → (changes_of key ops ≡ 0 → last_word key ops ≡ None) → option_or (last_word key ops) w ≡ None
    some_here key ops None zero_is rest = rw (rest (omega (arith, zero_is))) refl
    some_here key ops (Some w) zero_is rest = absurd (omega (arith, zero_is))

counted_of : (key : List ℕ) (ops : List MapOp) (word : Option (Option Tree)) → last_word key ops ≡ word → count_of (latest_of key ops) ≡ changes_of key ops
counted_of key ops None is = rw is (sym (none_changes key ops is))
counted_of key ops (Some w) is = rw is refl

pub count-laid : (pending : List MapOp) (cleared : ℕ) (latest : table.Values Latest) (key : List ℕ) → IsLaid pending cleared latest → count_of (get latest key) ≤ length pending
count-laid pending cleared latest key laid =
    omega (arith, ap count_of (laid.kept key), counted_of key laid.later (last_word key laid.later) refl, changes-few key laid.later, ap length laid.parts, length-append laid.earlier laid.later)

-- ---- a change more

keyed-append : (ops : List MapOp) (op : MapOp) → AreKeyed ops → (op ≡ Clear → ⊥) → AreKeyed (ops ++ op ∷ [])
keyed-append [] op keyed own = (own, tt)
keyed-append (first ∷ ops) op keyed own = (keyed.0, keyed-append ops op keyed.1 own)

ends-append : (ops : List MapOp) → EndsInClear (ops ++ Clear ∷ [])
ends-append [] = refl
ends-append (op ∷ []) = refl
ends-append (op ∷ next ∷ ops) = ends-append (next ∷ ops)

pub none-laid : IsLaid [] 0 empty
none-laid = record { earlier = []; later = []; parts = refl; counted = refl; clear = tt; keyed = tt; kept = λ key. get-empty byte_order key }

pub clear-laid : (pending : List MapOp) → IsLaid (pending ++ Clear ∷ []) (length (pending ++ Clear ∷ [])) empty
clear-laid pending = record {
  earlier = pending ++ Clear ∷ [];
  later = [];
  parts = sym (append-nil (pending ++ Clear ∷ []));
  counted = refl;
  clear = ends-append pending;
  keyed = tt;
  kept = λ key. get-empty byte_order key;
}

-- the operation speaks of this key alone, and says this of it
abbrev pub SaysOf : MapOp → List ℕ → Option Tree → Type 0
SaysOf op key value = (op ≡ Clear → ⊥) × ((other : List ℕ) → says other op ≡ cond (bytes_eq other key) (Some value) None)

pub set_says : (key : List ℕ) (value : Tree) → SaysOf (Set key value) key (Some value)
set_says key value = (λ is. cc, λ other. refl)

pub delete_says : (key : List ℕ) → SaysOf (Delete key) key None
delete_says key = (λ is. cc, λ other. refl)

-- the last of some changes, with one more behind them
one_more : (other : List ℕ) (ops : List MapOp) (op : MapOp) (word : Option (Option Tree)) → says other op ≡ word
    → latest_of other (ops ++ op ∷ []) ≡ counted_as (changes_of other ops + (if is_some word then 1 else 0)) (option_or word (last_word other ops))
one_more other ops op word is =
    let count : changes_of other (ops ++ op ∷ []) ≡ changes_of other ops + (if is_some word then 1 else 0) = rw (← is) (omega (arith, changes-append other ops (op ∷ []))) in
    let words : last_word other (ops ++ op ∷ []) ≡ option_or word (last_word other ops) = last_word-append other ops (op ∷ []) ∙ ap (λ w. option_or w (last_word other ops)) is in
    rw (count, words) refl

module _ (pending : List MapOp) (cleared : ℕ) (latest : table.Values Latest) (laid : IsLaid pending cleared latest) (op : MapOp) (key : List ℕ) (value : Option Tree) (of_key : SaysOf op key value) where
  abbrev laid_on : Latest
  laid_on = record { value = value; changes = count_of (get latest key) + 1 }

  count_is : count_of (get latest key) ≡ changes_of key laid.later
  count_is = ap count_of (laid.kept key) ∙ counted_of key laid.later (last_word key laid.later) refl

  kept_on : (other : List ℕ) (b : Bool) → bytes_eq other key ≡ b → cond b (Some laid_on) (get latest other) ≡ latest_of other (laid.later ++ op ∷ [])
  kept_on other true is =
      let same : other ≡ key = (bytes_eq-Decides other key).0 is in
      let count : count_of (get latest key) ≡ changes_of other laid.later = count_is ∙ ap (λ k. changes_of k laid.later) (sym same) in
      ap (λ n. Some (record { value = value; changes = n + 1 })) count
      ∙ sym (one_more other laid.later op (Some value) (of_key.1 other ∙ ap (λ b. cond b (Some value) None) is))
  kept_on other false is =
      laid.kept other
      ∙ left_alone other laid.later (last_word other laid.later) refl
      ∙ sym (one_more other laid.later op None (of_key.1 other ∙ ap (λ b. cond b (Some value) None) is))
    where
      left_alone : (other : List ℕ) (ops : List MapOp) (word : Option (Option Tree)) → last_word other ops ≡ word
          → latest_of other ops ≡ counted_as (changes_of other ops + 0) (last_word other ops)
      left_alone other ops word is = let n : changes_of other ops + 0 ≡ changes_of other ops = omega arith in rw n refl

  pub change-laid : IsLaid (pending ++ op ∷ []) cleared (insert latest key laid_on)
  change-laid = record {
    earlier = laid.earlier;
    later = laid.later ++ op ∷ [];
    parts = ap (λ ops. ops ++ op ∷ []) laid.parts ∙ append_assoc laid.earlier laid.later (op ∷ []);
    counted = laid.counted;
    clear = laid.clear;
    keyed = keyed-append laid.later op laid.keyed of_key.0;
    kept = λ other. get_inserted latest key laid_on other ∙ kept_on other (bytes_eq other key) refl;
  }

-- ---- the oldest change is gone

abbrev tail : List MapOp → List MapOp
tail [] = []
tail (op ∷ ops) = ops

module _ (op : MapOp) (rest : List MapOp) (cleared : ℕ) (latest : table.Values Latest) where
  none_cleared : (earlier later : List MapOp) → op ∷ rest ≡ earlier ++ later → cleared ≡ length earlier → cleared ≡ 0 → op ∷ rest ≡ later
  none_cleared [] later parts counted is = parts
  none_cleared (first ∷ earlier) later parts counted is = absurd (omega (arith, counted, is))

  -- where no clear is left, all changes are kept by key
  all_kept : IsLaid (op ∷ rest) cleared latest → cleared ≡ 0 → AreKeyed (op ∷ rest) × ((key : List ℕ) → get latest key ≡ latest_of key (op ∷ rest))
  all_kept laid is =
      let same : op ∷ rest ≡ laid.later = none_cleared laid.earlier laid.later laid.parts laid.counted is in
      (subst AreKeyed (sym same) laid.keyed, λ key. laid.kept key ∙ ap (latest_of key) (sym same))

  module _ (laid : IsLaid (op ∷ rest) cleared latest) (is_zero : cleared ≡ 0) (key : List ℕ) (value : Option Tree) (of_key : SaysOf op key value) where
    own : says key op ≡ Some value
    own = of_key.1 key ∙ ap (λ b. cond b (Some value) None) ((bytes_eq-Decides key key).1 refl)

    -- what is kept of the key, by what is said of it behind the oldest change
    kept_is : (word : Option (Option Tree)) → last_word key rest ≡ word
        → get latest key ≡ counted_as (1 + changes_of key rest) (option_or word (Some value))
    kept_is word is =
        (all_kept laid is_zero).1 key
        ∙ ap₂ (λ (mine word : Option (Option Tree)). counted_as ((if is_some mine then 1 else 0) + changes_of key rest) (option_or word mine)) own is

    -- other keys have what they had
    other_kept : (other : List ℕ) → bytes_eq other key ≡ false → get latest other ≡ latest_of other rest
    other_kept other apart =
        (all_kept laid is_zero).1 other
        ∙ ap (λ (mine : Option (Option Tree)). counted_as ((if is_some mine then 1 else 0) + changes_of other rest) (option_or (last_word other rest) mine))
        (of_key.1 other ∙ ap (λ b. cond b (Some value) None) apart)
        ∙ nothing_more (last_word other rest) (changes_of other rest)
      where
        nothing_more : (word : Option (Option Tree)) (n : ℕ) → counted_as (0 + n) (option_or word None) ≡ counted_as n word
        nothing_more word n = let zero_more : 0 + n ≡ n = omega arith in rw (or_none word, zero_more) refl

    module _ (new : table.Values Latest)
        (fewer : (last : Latest) → get latest key ≡ Some last → 1 < last.changes → new ≡ insert latest key (record last { changes = last.changes - 1 }))
        (gone : (last : Latest) → get latest key ≡ Some last → last.changes ≤ 1 → new ≡ remove latest key) where
      only_change : last_word key rest ≡ None → new ≡ remove latest key
      only_change is = gone _ (kept_is None is) (omega (arith, none_changes key rest is))

      more_changes : (w : Option Tree) → last_word key rest ≡ Some w → 0 < changes_of key rest
      more_changes w is = grind (arith, is, some_changes key rest)

      one_of_more : (w : Option Tree) → last_word key rest ≡ Some w → new ≡ insert latest key (record { value = w; changes = changes_of key rest })
      one_of_more w is =
          let n : 1 + changes_of key rest - 1 ≡ changes_of key rest = omega arith in
          fewer _ (kept_is (Some w) is) (omega (arith, more_changes w is)) ∙ ap (λ m. insert latest key (record { value = w; changes = m })) n

      left : (other : List ℕ) (b : Bool) (word : Option (Option Tree)) → bytes_eq other key ≡ b → last_word key rest ≡ word → get new other ≡ latest_of other rest
      left other b None at is = ap (λ m. get m other) (only_change is) ∙ get_removed latest key other ∙ left_out b at
        where
          left_out : (b : Bool) → bytes_eq other key ≡ b → cond (bytes_eq other key) None (get latest other) ≡ latest_of other rest
          left_out true at = rw (at, (bytes_eq-Decides other key).0 at, is) refl
          left_out false at = rw at (other_kept other at)
      left other b (Some w) at is = ap (λ m. get m other) (one_of_more w is) ∙ get_inserted latest key _ other ∙ put_on b at
        where
          put_on : (b : Bool) → bytes_eq other key ≡ b → cond (bytes_eq other key) (Some (record { value = w; changes = changes_of key rest })) (get latest other) ≡ latest_of other rest
          put_on true at = rw (at, (bytes_eq-Decides other key).0 at, is) refl
          put_on false at = rw at (other_kept other at)

      pub lifted-laid : IsLaid rest cleared new
      lifted-laid = record {
        earlier = [];
        later = rest;
        parts = refl;
        counted = is_zero;
        clear = tt;
        keyed = (all_kept laid is_zero).0.1;
        kept = λ other. left other (bytes_eq other key) (last_word key rest) refl refl;
      }

-- what an operation with a key says
pub says_of : (op : MapOp) (key : List ℕ) → ((value : Tree) × (op ≡ Set key value)) ⊎ (op ≡ Delete key) → (value : Option Tree) × SaysOf op key value
says_of op key (inl set) = (Some set.0, subst (λ o. SaysOf o key (Some set.0)) (sym set.1) (set_says key set.0))
says_of op key (inr delete) = (None, subst (λ o. SaysOf o key None) (sym delete) (delete_says key))
