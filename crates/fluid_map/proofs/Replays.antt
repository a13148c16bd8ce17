-- What a replay gives each key.
use Rattle.std.proofs.Common.{◌≡◌, ℕ, Bool, true, false, cond, List, [], ◌∷◌, ◌++◌, Option, Some, None, bytes_eq, refl, sym, ap, ◌∙◌}
use Rattle.std.specs.Prelude.{IsSome}
use Rattle.std.specs.Option.{option_or, unwrap_or}
use Rattle.std.specs.FinMap.{get, get-empty}
use Rattle.std.proofs.lemmas.Bool.{false≢true}
use Rattle.std.proofs.lemmas.List.Sums.{fold-append}
use Rattle.std.proofs.lemmas.Slice.Eq.{bytes_eq-Decides}
use Rattle.fluid_json.specs.Tree.{Tree}
use Rattle.fluid_table.specs.Table.{byte_order}
use Rattle.fluid_table.proofs.Places.{get_inserted, get_removed}
use Rattle.fluid_map.specs.declared.operation.MapOp.{MapOp}
use Rattle.fluid_map.specs.declared.operation.MapOp.TheVariants.{Set, Delete, Clear}
use Rattle.fluid_map.specs.Replay.{Values, Shared, says, last_word, value_behind, after, replay, shown, StandsFor}
use Rattle.fluid_map.specs.Laws.{IsLastWord, IsReplayedOn, IsMasked}

-- what is said of one key alone
said : (b : Bool) (w before : Option Tree) → cond b w before ≡ unwrap_or (cond b (Some w) None) before
said true w before = refl
said false w before = refl

get-after : (values : Values) (op : MapOp) (key : List ℕ) → get (after values op) key ≡ unwrap_or (says key op) (get values key)
get-after values (Set k value) key = get_inserted values k value key ∙ said (bytes_eq key k) (Some value) (get values key)
get-after values (Delete k) key = get_removed values k key ∙ said (bytes_eq key k) None (get values key)
get-after values Clear key = get-empty byte_order key

later : (word other : Option (Option Tree)) (before : Option Tree) → unwrap_or word (unwrap_or other before) ≡ unwrap_or (option_or word other) before
later None other before = refl
later (Some w) other before = refl

pub last_word_law : IsLastWord
last_word_law values [] key = refl
last_word_law values (op ∷ ops) key =
    last_word_law (after values op) ops key ∙ ap (unwrap_or (last_word key ops)) (get-after values op key) ∙ later (last_word key ops) (says key op) (get values key)

pub replayed_on_law : IsReplayedOn
replayed_on_law values earlier later_ones = fold-append after values earlier later_ones

decided : (word : Option (Option Tree)) (one other : Option Tree) → IsSome word → unwrap_or word one ≡ unwrap_or word other
decided None one other is = absurd (false≢true is)
decided (Some w) one other is = refl

pub masked_law : IsMasked
masked_law shared key other is = decided (last_word key shared.pending) (get other key) (get shared.acknowledged key) is

-- to delete a key without a value changes nothing
without : (b : Bool) (before : Option Tree) → (b ≡ true → before ≡ None) → cond b None before ≡ before
without true before none = sym (none refl)
without false before none = refl

pub delete_of_absent : (values : Values) (key other : List ℕ) → get values key ≡ None → get (after values (Delete key)) other ≡ get values other
delete_of_absent values key other none =
    get_removed values key other ∙ without (bytes_eq other key) (get values other) (λ is. ap (get values) ((bytes_eq-Decides other key).0 is) ∙ none)

-- ---- what the last of some operations says, where others follow

pub or_none : (word : Option (Option Tree)) → option_or word None ≡ word
or_none None = refl
or_none (Some w) = refl

or_or : (one two three : Option (Option Tree)) → option_or (option_or one two) three ≡ option_or one (option_or two three)
or_or None two three = refl
or_or (Some w) two three = refl

pub last_word-append : (key : List ℕ) (earlier later_ones : List MapOp) → last_word key (earlier ++ later_ones) ≡ option_or (last_word key later_ones) (last_word key earlier)
last_word-append key [] later_ones = sym (or_none (last_word key later_ones))
last_word-append key (op ∷ ops) later_ones =
    ap (λ word. option_or word (says key op)) (last_word-append key ops later_ones) ∙ or_or (last_word key later_ones) (last_word key ops) (says key op)

-- ---- a list of operations, and one more

pub stands_after : (values : Values) (ops : List MapOp) (op : MapOp) (acknowledged : Values) → acknowledged ≡ replay values ops → after acknowledged op ≡ replay values (ops ++ op ∷ [])
stands_after values ops op acknowledged is = ap (λ v. after v op) is ∙ sym (replayed_on_law values ops (op ∷ []))

-- what is shown is the replay of all
pub shown_behind : (values : Values) (ops : List MapOp) (shared : Shared) (key : List ℕ) → StandsFor values ops shared
    → shown shared key ≡ value_behind key (ops ++ shared.pending) (get values key)
shown_behind values ops shared key is =
    ap (λ v. unwrap_or (last_word key shared.pending) (get v key)) is ∙ ap (unwrap_or (last_word key shared.pending)) (last_word_law values ops key)
    ∙ later (last_word key shared.pending) (last_word key ops) (get values key)
    ∙ ap (λ word. unwrap_or word (get values key)) (sym (last_word-append key ops shared.pending))

-- a change that is acknowledged in its turn is shown as before
pub shown_acknowledged : (values : Values) (op : MapOp) (rest : List MapOp) (key : List ℕ) → value_behind key rest (get (after values op) key) ≡ value_behind key (op ∷ rest) (get values key)
shown_acknowledged values op rest key = ap (unwrap_or (last_word key rest)) (get-after values op key) ∙ later (last_word key rest) (says key op) (get values key)
