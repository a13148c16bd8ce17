-- The text of what is kept is that of the messages.
use Rattle.std.proofs.Common.{◌≡◌, ℕ, ◌==◌, Bool, true, false, ◌||◌, cond, List, [], ◌∷◌, ◌++◌, map, Option, Some, None, option_map, String, Global, string_bytes, string_cmp, refl, sym, ◌∙◌, ap, ap₂, subst, append_assoc, inl, inr, ◌⊎◌, bytes_eq}
use Rattle.std.specs.Prelude.{filter, is_some}
use Rattle.std.specs.List.{AllByRecursion, filter_map, cons_option}
use Rattle.std.specs.Map.{lookup}
use Rattle.std.specs.BTreeMap.{is_at, IsOrdered}
use Rattle.std.proofs.lemmas.List.Elements.{recursion_from_All}
use Rattle.std.proofs.lemmas.Slice.Eq.{bytes_eq-Decides}
use Rattle.std.proofs.lemmas.Map.Text.{is_eq-slice_cmp, text_cmp}
use Rattle.json.specs.Token.{Token}
use Rattle.fluid_json.specs.Tree.{Tree, members, trees}
use Rattle.fluid_json.specs.Printed.{printed}
use Rattle.fluid_json.specs.Tokens.{tokens_of, members_tokens, trees_tokens}
use Rattle.fluid_rules.specs.Past.{has_id, AreInOrder}
use Rattle.fluid_rules.proofs.Ids.{own_id, put_id-has, put_id-in_order}
use Rattle.fluid_tasks.specs.declared.acts.Act.TheVariants.{Add, Acquire, Complete, Release, Volunteer, Abandon, Finish}
use Rattle.fluid_tasks.specs.declared.tasks.Item.{Item}
use Rattle.fluid_tasks.specs.declared.queues.Queue.{Queue}
use Rattle.fluid_tasks.specs.Acts.{Said, Does, Leaves, Nothing, said}
use Rattle.fluid_tasks.specs.Past.{Past, first, is_text, is_number, adds, number_if, items, added, is_of, free, holder_of, volunteering, Volunteering, numbered, volunteerings, standing, clients, candidates}
use Rattle.fluid_tasks.specs.Printed.{queue_in, task_in, with_name, queues, tasks, shown_queue, shown_task, is_any, shown, held_in, held, all_of, print}
use Rattle.fluid_tasks.specs.Shown.{queue_shown, task_shown, shown_in, tokens_under, IsFoundEach}
use Rattle.fluid_tasks.specs.Kept.{Named, at, Candidates, entries_at, pairs, held_by, IsNumbered, IsQueueOf, IsQueue}
use Rattle.fluid_tasks.proofs.Lists.{or_left}
use Rattle.fluid_tasks.proofs.Facts.{items_rise, of_mem, added-step, first_free_is}
use Rattle.fluid_tasks.proofs.Candidates.{volunteerings-step, stands, standing-filter}
use Rattle.fluid_tasks.proofs.Ordered.{same_shown, names_of, names_in_order, said_of, entries_are}

-- ---- tokens

-- a member is printed, or left out
pub under : {V : Type 0} (value : V → Option Tree) (e : String Global × V) (es : List (String Global × V)) →
    tokens_under (string_bytes e.0) (value e.1) ++ members_tokens (members (shown_in value es)) ≡ members_tokens (members (shown_in value (e ∷ es)))
under value e es = of (value e.1)
  where
    of : (o : Option Tree) → tokens_under (string_bytes e.0) o ++ members_tokens (members (shown_in value es)) ≡ members_tokens (members (cons_option (option_map (λ tree. (string_bytes e.0, tree)) o) (shown_in value es)))
    of None = refl
    of (Some t) = refl

pub member_on : {V : Type 0} (value : V → Option Tree) (e : String Global × V) (left rest : List (String Global × V)) (name : List ℕ) (old new all : List Token) → left ≡ e ∷ rest → name ≡ string_bytes e.0
    → new ≡ old ++ tokens_under name (value e.1) → old ++ members_tokens (members (shown_in value left)) ≡ all → new ++ members_tokens (members (shown_in value rest)) ≡ all
member_on value e left rest name old new all left_is name_is put before =
    ap (λ l. l ++ members_tokens (members (shown_in value rest))) (put ∙ ap (λ n. old ++ tokens_under n (value e.1)) name_is)
    ∙ append_assoc old (tokens_under (string_bytes e.0) (value e.1)) (members_tokens (members (shown_in value rest)))
    ∙ ap (λ l. old ++ l) (under value e rest) ∙ ap (λ l. old ++ members_tokens (members (shown_in value l))) (sym left_is) ∙ before

pub item_on : {X : Type 0} (value : X → Tree) (x : X) (left rest : List X) (old new all : List Token) → left ≡ x ∷ rest → new ≡ old ++ tokens_of (value x) → old ++ trees_tokens (trees (map value left)) ≡ all
    → new ++ trees_tokens (trees (map value rest)) ≡ all
item_on value x left rest old new all left_is put before =
    ap (λ l. l ++ trees_tokens (trees (map value rest))) put ∙ append_assoc old (tokens_of (value x)) (trees_tokens (trees (map value rest)))
    ∙ ap (λ l. old ++ trees_tokens (trees (map value l))) (sym left_is) ∙ before

-- the two members of all, one part behind another
pub all_tokens : (before a b q c t e : List Token) → (((((before ++ a) ++ b) ++ q) ++ c) ++ t) ++ e ≡ before ++ (a ++ (b ++ (q ++ (c ++ (t ++ e)))))
all_tokens before a b q c t e =
    append_assoc ((((before ++ a) ++ b) ++ q) ++ c) t e
    ∙ append_assoc (((before ++ a) ++ b) ++ q) c (t ++ e)
    ∙ append_assoc ((before ++ a) ++ b) q (c ++ (t ++ e))
    ∙ append_assoc (before ++ a) b (q ++ (c ++ (t ++ e)))
    ∙ append_assoc before a (b ++ (q ++ (c ++ (t ++ e))))

-- ---- names

queues_in_order : (past : Past) → AreInOrder (queues past)
unfolding queues
queues_in_order [] = tt
queues_in_order (m ∷ past) = of (queue_in (said m)) (queues_in_order past)
  where
    of : (o : Option (List ℕ)) → AreInOrder (queues past) → AreInOrder (with_name o (queues past))
    of None order = order
    of (Some name) order = put_id-in_order name (queues past) order

tasks_in_order : (past : Past) → AreInOrder (tasks past)
unfolding tasks
tasks_in_order [] = tt
tasks_in_order (m ∷ past) = of (task_in (said m)) (tasks_in_order past)
  where
    of : (o : Option (List ℕ)) → AreInOrder (tasks past) → AreInOrder (with_name o (tasks past))
    of None order = order
    of (Some name) order = put_id-in_order name (tasks past) order

or_right : (a b : Bool) → b ≡ true → (a || b) ≡ true
or_right true b is = refl
or_right false b is = is

named_still : (o : Option (List ℕ)) (names : List (List ℕ)) (n : List ℕ) → has_id n names ≡ true → has_id n (with_name o names) ≡ true
named_still None names n is = is
named_still (Some name) names n is = put_id-has n name names ∙ or_right (bytes_eq n name) (has_id n names) is

pub named_queue : (past : Past) (q : List ℕ) (i : ℕ) → is_of past q i ≡ true → has_id q (queues past) ≡ true
unfolding queues added
named_queue [] q i is = absurd (let wrong : false ≡ true = is in cc)
named_queue (m ∷ past) q i is = of (λ h. named_still (queue_in (said m)) (queues past) q (named_queue past q i h)) (said m) refl
  where
    Before : Type 0
    Before = is_of past q i ≡ true → has_id q (with_name (queue_in (said m)) (queues past)) ≡ true

    queue_of : Option Item → Bool
    queue_of o = is_text (option_map (λ (it : Item). it.queue) o) q

    step : (d : Said) → said m ≡ d → is_text (option_map (λ (it : Item). it.queue) (cond (is_number (first (number_if m.number (adds d))) i) (adds d) (added past i))) q ≡ true
    step d at = ap (λ (o : Option Item). is_text (option_map (λ (it : Item). it.queue) o) q) (sym (added-step m past d at i)) ∙ is

    adding : (b : Bool) (it : Item) → is_text (option_map (λ (x : Item). x.queue) (cond b (Some it) (added past i))) q ≡ true → (bytes_eq it.queue q ≡ true) ⊎ (is_of past q i ≡ true)
    adding true it h = inl h
    adding false it h = inr h

    same : (d : Said) → said m ≡ d → queue_in (said m) ≡ queue_in d
    same d at = ap queue_in at

    of : Before → (d : Said) → said m ≡ d → has_id q (with_name (queue_in (said m)) (queues past)) ≡ true
    of before (Does c (Add queue value)) at = elim (adding (m.number == i) (record { queue = queue; value = value }) (step _ at)) [
      | inl here ↦
          ap (λ o. has_id q (with_name o (queues past))) (same _ at) ∙ put_id-has q queue (queues past)
          ∙ or_left (bytes_eq q queue) (has_id q (queues past)) (subst (λ w. bytes_eq q w ≡ true) (sym ((bytes_eq-Decides queue q).0 here)) (own_id q))
      | inr old ↦ before old
    ]
    of before (Does c (Acquire queue)) at = before (step _ at)
    of before (Does c (Complete queue own)) at = before (step _ at)
    of before (Does c (Release queue own)) at = before (step _ at)
    of before (Does c (Volunteer task)) at = before (step _ at)
    of before (Does c (Abandon task)) at = before (step _ at)
    of before (Does c (Finish task)) at = before (step _ at)
    of before (Leaves c) at = before (step _ at)
    of before Nothing at = before (step _ at)

pub named_task : (past : Past) (u : List ℕ) → is_any (volunteerings past u) ≡ true → has_id u (tasks past) ≡ true
unfolding tasks volunteerings
named_task [] u is = absurd (let wrong : false ≡ true = is in cc)
named_task (m ∷ past) u is = of (λ h. named_still (task_in (said m)) (tasks past) u (named_task past u h)) (said m) refl
  where
    Before : Type 0
    Before = is_any (volunteerings past u) ≡ true → has_id u (with_name (task_in (said m)) (tasks past)) ≡ true

    step : (d : Said) → said m ≡ d → is_any (volunteerings past u ++ numbered m.number (volunteering u d)) ≡ true
    step d at = ap (λ l. is_any l) (sym (volunteerings-step m past d at u)) ∙ is

    prefix : (vs : List Volunteering) → is_any (vs ++ []) ≡ true → is_any vs ≡ true
    prefix [] h = h
    prefix (v ∷ vs) h = refl

    volunteered : (b : Bool) (c own : List ℕ) → bytes_eq own u ≡ b → is_any (volunteerings past u ++ numbered m.number (cond b (Some c) None)) ≡ true → (bytes_eq own u ≡ true) ⊎ (is_any (volunteerings past u) ≡ true)
    volunteered true c own at h = inl at
    volunteered false c own at h = inr (prefix (volunteerings past u) h)

    of : Before → (d : Said) → said m ≡ d → has_id u (with_name (task_in (said m)) (tasks past)) ≡ true
    of before (Does c (Volunteer own)) at = elim (volunteered (bytes_eq own u) c own refl (step _ at)) [
      | inl here ↦
          ap (λ o. has_id u (with_name o (tasks past))) (ap task_in at) ∙ put_id-has u own (tasks past)
          ∙ or_left (bytes_eq u own) (has_id u (tasks past)) (subst (λ w. bytes_eq u w ≡ true) (sym ((bytes_eq-Decides own u).0 here)) (own_id u))
      | inr old ↦ before old
    ]
    of before (Does c (Add queue value)) at = before (prefix (volunteerings past u) (step _ at))
    of before (Does c (Acquire queue)) at = before (prefix (volunteerings past u) (step _ at))
    of before (Does c (Complete queue own)) at = before (prefix (volunteerings past u) (step _ at))
    of before (Does c (Release queue own)) at = before (prefix (volunteerings past u) (step _ at))
    of before (Does c (Abandon task)) at = before (prefix (volunteerings past u) (step _ at))
    of before (Does c (Finish task)) at = before (prefix (volunteerings past u) (step _ at))
    of before (Leaves c) at = before (prefix (volunteerings past u) (step _ at))
    of before Nothing at = before (prefix (volunteerings past u) (step _ at))

-- ---- what is looked up is named

lookup_named : {V : Type 0} (es : List (String Global × V)) (n : List ℕ) → is_some (lookup (is_at (text_cmp n)) es) ≡ true → has_id n (names_of es) ≡ true
lookup_named [] n is = absurd (let wrong : false ≡ true = is in cc)
lookup_named (e ∷ es) n is = of (bytes_eq n (string_bytes e.0)) refl (λ h. lookup_named es n h)
  where
    of : (b : Bool) → bytes_eq n (string_bytes e.0) ≡ b → (is_some (lookup (is_at (text_cmp n)) es) ≡ true → has_id n (names_of es) ≡ true) → (b || has_id n (names_of es)) ≡ true
    of true at again = refl
    of false at again = again (sym (ap (λ b. is_some (cond b (Some e.1) (lookup (is_at (text_cmp n)) es))) (is_eq-slice_cmp n (string_bytes e.0) ∙ at)) ∙ is)

pub at_named : {V : Type 0} (m : Named V) (n : List ℕ) → is_some (at m n) ≡ true → has_id n (names_of m.entries) ≡ true
at_named m n is = lookup_named m.entries n is

-- what is shown of each entry is what is said of its name
shown_names : {V : Type 0} (value : V → Option Tree) (f : List ℕ → Option Tree) (es : List (String Global × V)) → AllByRecursion (λ e. value e.1 ≡ f (string_bytes e.0)) es → shown_in value es ≡ shown f (names_of es)
shown_names value f [] all = refl
shown_names value f (e ∷ es) all = ap₂ (λ o l. cons_option (option_map (λ tree. (string_bytes e.0, tree)) o) l) all.0 (shown_names value f es all.1)

shown_any : (free : List ℕ) (held : List (ℕ × List ℕ)) → is_some (shown_queue free held) ≡ true → (is_any free ≡ true) ⊎ (is_any held ≡ true)
shown_any [] [] is = absurd (let wrong : false ≡ true = is in cc)
shown_any [] (h ∷ held) is = inr refl
shown_any (n ∷ free) held is = inl refl

-- ---- queues

held-is : (past : Past) (q : List ℕ) → held past q ≡ said_of (held_by past q) (items past)
unfolding held
held-is past q = of (items past)
  where
    each : (n : ℕ) (b : Bool) (o : Option (List ℕ)) → cond b (option_map {U = ℕ × List ℕ} (λ c. (n, c)) o) None ≡ option_map {U = ℕ × List ℕ} (λ c. (n, c)) (cond b o None)
    each n true o = refl
    each n false o = refl

    of : (ns : List ℕ) → filter_map (held_in past q) ns ≡ said_of (held_by past q) ns
    of [] = refl
    of (n ∷ ns) = ap₂ (λ o l. cons_option o l) (each n (is_of past q n) (holder_of past n)) (of ns)

held_of : (past : Past) (q : List ℕ) (n : ℕ) → is_some (held_by past q n) ≡ true → is_of past q n ≡ true
held_of past q n is = of (is_of past q n) is
  where
    of : (b : Bool) → is_some (cond b (holder_of past n) None) ≡ true → b ≡ true
    of true h = refl
    of false h = absurd (let wrong : false ≡ true = h in cc)

-- the first of some numbers of which something is said
said_any : (f : ℕ → Option (List ℕ)) (ns : List ℕ) → is_any (said_of f ns) ≡ true → (n : ℕ) × (is_some (f n) ≡ true)
said_any f [] is = absurd (let wrong : false ≡ true = is in cc)
said_any f (n ∷ ns) is = of (f n) refl (λ h. said_any f ns h)
  where
    of : (o : Option (List ℕ)) → f n ≡ o → (is_any (said_of f ns) ≡ true → (k : ℕ) × (is_some (f k) ≡ true)) → (k : ℕ) × (is_some (f k) ≡ true)
    of (Some c) at again = (n, ap is_some at)
    of None at again = again (sym (ap (λ o. is_any (cons_option (option_map {U = ℕ × List ℕ} (λ c. (n, c)) o) (said_of f ns))) at) ∙ is)

first_any : (xs : List ℕ) → is_any xs ≡ true → (x : ℕ) × (first xs ≡ Some x)
first_any [] is = absurd (let wrong : false ≡ true = is in cc)
first_any (x ∷ xs) is = (x, refl)

-- a queue that is shown has an item
shown_item : (past : Past) (q : List ℕ) → is_some (shown_queue (free past q) (held past q)) ≡ true → (i : ℕ) × (is_of past q i ≡ true)
shown_item past q is = elim (shown_any (free past q) (held past q) is) [
  | inl some ↦ let its = first_any (free past q) some in (its.0, (first_free_is past q its.0 its.1).of_queue)
  | inr some ↦ let its = said_any (held_by past q) (items past) (ap (λ l. is_any l) (sym (held-is past q)) ∙ some) in (its.0, held_of past q its.0 its.1)
]

queue_text : (past : Past) → IsNumbered past → (q : List ℕ) (w : Queue) → IsQueueOf past q w → queue_shown w ≡ shown_queue (free past q) (held past q)
queue_text past numbered q w its =
    ap₂ shown_queue its.free
    (entries_are w.held its.ordered (held_by past q) its.held (items past) (items_rise past numbered) (λ n some. of_mem past q n (held_of past q n some)) ∙ sym (held-is past q))

-- a queue of which something is shown is kept
kept_queue : (past : Past) (q : List ℕ) (o : Option Queue) → IsQueue past q o → (i : ℕ) → is_of past q i ≡ true → is_some (shown_queue (free past q) (held past q)) ≡ true → is_some o ≡ true
kept_queue past q (Some w) is i own shown_so = refl
kept_queue past q None is i own shown_so =
    let none : held past q ≡ [] = held-is past q ∙ nothing (items past) in
    absurd (let wrong : false ≡ true = sym (ap₂ (λ f h. is_some (shown_queue f h)) is.free none) ∙ shown_so in cc)
  where
    nothing : (ns : List ℕ) → said_of (held_by past q) ns ≡ []
    nothing [] = refl
    nothing (n ∷ ns) = ap (λ o. cons_option (option_map {U = ℕ × List ℕ} (λ c. (n, c)) o) (said_of (held_by past q) ns)) (is.held n) ∙ nothing ns

pub queues_text : (past : Past) → IsNumbered past → (kept : Named Queue) → IsOrdered string_cmp kept → IsFoundEach kept
    → ((q : List ℕ) → IsQueue past q (at kept q)) → shown_in queue_shown kept.entries ≡ shown (λ q. shown_queue (free past q) (held past q)) (queues past)
queues_text past numbered kept order found are =
    shown_names queue_shown (λ q. shown_queue (free past q) (held past q)) kept.entries (each kept.entries (recursion_from_All (λ (e : String Global × Queue). at kept (string_bytes e.0) ≡ Some e.1) kept.entries found))
    ∙ same_shown (λ q. shown_queue (free past q) (held past q)) (names_of kept.entries) (queues past) (names_in_order kept.entries order) (queues_in_order past)
    (λ q some. let item = shown_item past q some in at_named kept q (kept_queue past q (at kept q) (are q) item.0 item.1 some))
    (λ q some. let item = shown_item past q some in named_queue past q item.0 item.1)
  where
    each : (es : List (String Global × Queue)) → AllByRecursion (λ (e : String Global × Queue). at kept (string_bytes e.0) ≡ Some e.1) es
        → AllByRecursion (λ (e : String Global × Queue). queue_shown e.1 ≡ shown_queue (free past (string_bytes e.0)) (held past (string_bytes e.0))) es
    each [] all = tt
    each (e ∷ es) all = (queue_text past numbered (string_bytes e.0) e.1 (subst (IsQueue past (string_bytes e.0)) all.0 (are (string_bytes e.0))), each es all.1)

-- ---- tasks

clients-pairs : (vs : List Volunteering) → map (λ e. e.1) (pairs vs) ≡ clients vs
clients-pairs [] = refl
clients-pairs (v ∷ vs) = ap (λ l. v.client ∷ l) (clients-pairs vs)

candidates-is : (past : Past) (u : List ℕ) → candidates past u ≡ clients (standing past u)
unfolding candidates
candidates-is past u = refl

task_any : (cs : List (List ℕ)) → is_some (shown_task cs) ≡ true → is_any cs ≡ true
task_any [] is = absurd (let wrong : false ≡ true = is in cc)
task_any (c ∷ cs) is = refl

clients_any : (vs : List Volunteering) → is_any (clients vs) ≡ true → is_any vs ≡ true
clients_any [] is = absurd (let wrong : false ≡ true = is in cc)
clients_any (v ∷ vs) is = refl

filter_any : (p : Volunteering → Bool) (vs : List Volunteering) → is_any (filter p vs) ≡ true → is_any vs ≡ true
filter_any p [] is = absurd (let wrong : false ≡ true = is in cc)
filter_any p (v ∷ vs) is = refl

-- a task of which something is shown has a candidate
shown_stands : (past : Past) (u : List ℕ) → is_some (shown_task (candidates past u)) ≡ true → is_any (standing past u) ≡ true
shown_stands past u is = clients_any (standing past u) (ap (λ l. is_any l) (sym (candidates-is past u)) ∙ task_any (candidates past u) is)

kept_task : (o : Option Candidates) (vs : List Volunteering) → entries_at o ≡ pairs vs → is_any vs ≡ true → is_some o ≡ true
kept_task (Some w) vs is some = refl
kept_task None [] is some = absurd (let wrong : false ≡ true = some in cc)
kept_task None (v ∷ vs) is some = absurd (cc)

pub tasks_text : (past : Past) → (kept : Named Candidates) → IsOrdered string_cmp kept → IsFoundEach kept
    → ((u : List ℕ) → entries_at (at kept u) ≡ pairs (standing past u)) → shown_in task_shown kept.entries ≡ shown (λ u. shown_task (candidates past u)) (tasks past)
tasks_text past kept order found are =
    shown_names task_shown (λ u. shown_task (candidates past u)) kept.entries (each kept.entries (recursion_from_All (λ (e : String Global × Candidates). at kept (string_bytes e.0) ≡ Some e.1) kept.entries found))
    ∙ same_shown (λ u. shown_task (candidates past u)) (names_of kept.entries) (tasks past) (names_in_order kept.entries order) (tasks_in_order past)
    (λ u some. at_named kept u (kept_task (at kept u) (standing past u) (are u) (shown_stands past u some)))
    (λ u some. named_task past u (filter_any (stands past u) (volunteerings past u) (ap (λ l. is_any l) (sym (standing-filter past u)) ∙ shown_stands past u some)))
  where
    each : (es : List (String Global × Candidates)) → AllByRecursion (λ (e : String Global × Candidates). at kept (string_bytes e.0) ≡ Some e.1) es
        → AllByRecursion (λ (e : String Global × Candidates). task_shown e.1 ≡ shown_task (candidates past (string_bytes e.0))) es
    each [] all = tt
    each (e ∷ es) all = (
      ap (λ l. shown_task l) (ap (map (λ x. x.1)) (ap entries_at (sym all.0) ∙ are (string_bytes e.0)) ∙ clients-pairs (standing past (string_bytes e.0)) ∙ sym (candidates-is past (string_bytes e.0))),
      each es all.1,
    )

-- ---- all of it

pub whole_text : (past : Past) (own others : List (List ℕ × Tree)) → own ≡ shown (λ q. shown_queue (free past q) (held past q)) (queues past) → others ≡ shown (λ u. shown_task (candidates past u)) (tasks past)
    → printed (all_of own others) ≡ print past
unfolding print
whole_text past own others one two = ap₂ (λ a b. printed (all_of a b)) one two
