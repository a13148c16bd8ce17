-- What the order of a legal ledger has of one id that is joined once: its ops have the numbers 1, 2, 3 and so on, and none stands behind
-- its leave.
use Rattle.std.proofs.Common.{◌≡◌, ℕ, zero, suc, ◌+◌, ◌≤◌, Bool, true, false, not, ◌||◌, if◌then◌else◌, List, [], ◌∷◌, ◌++◌, length, Option, Some, None, option_map, refl, sym, ◌∙◌, ap, subst, bytes_eq, arith, inl, inr, ◌⊎◌, length-append, append-nil}
use Rattle.std.proofs.lemmas.List.{append_cancel_left}
use Rattle.std.specs.List.{list_any, range_with_len, filter_map, cons_option, AllByRecursion}
use Rattle.std.proofs.lemmas.Bool.{or_cases, or_left, or_right, or_parts, and_left, false_from_ne_true}
use Rattle.json.specs.Text.{content, plain}
use Rattle.json.specs.Print.{escape}
use Rattle.json.proofs.Printed.Strings.{content-escape}
use Rattle.fluid_json.specs.Tree.{Tree, text}
use Rattle.fluid_json.specs.Printed.{printed}
use Rattle.fluid_types.specs.declared.entries.Raw.{Raw}
use Rattle.fluid_types.specs.declared.entries.Raw.TheVariants.{Join, Leave, Submit, Report}
use Rattle.fluid_types.specs.declared.entries.Scopes.{Scopes}
use Rattle.fluid_types.specs.declared.entries.Offered.{Offered}
use Rattle.fluid_types.specs.declared.entries.Offered.TheVariants as offered
use Rattle.fluid_types.specs.declared.entries.Submission.{Submission}
use Rattle.fluid_types.specs.declared.messages.Kind.{Kind}
use Rattle.fluid_types.specs.declared.messages.Kind.TheVariants as kind
use Rattle.fluid_types.specs.declared.messages.Message.{Message}
use Rattle.fluid_types.specs.declared.nacks.Nack.{Nack}
use Rattle.fluid_types.specs.declared.nacks.NackRule.TheVariants.{Gap, Nonexistent, Below, Ahead, Scope}
use Rattle.fluid_types.specs.declared.verdicts.Verdict.{Verdict}
use Rattle.fluid_types.specs.declared.verdicts.Verdict.TheVariants.{Sequenced, Nacked, Dropped, Absorbed}
use Rattle.fluid_types.specs.Quorum.{of_leave}
use Rattle.fluid_types.specs.Ledger.{Ledger, messages_of, order, seq}
use Rattle.fluid_types.proofs.Ledgers.{order-push}
use Rattle.fluid_rules.specs.Past as past
use Rattle.fluid_rules.specs.Past.{Entry, Client, joins, client_behind, client_heard, client_submitting, client_taking, count_of, is_below}
use Rattle.fluid_rules.specs.Scribe.{answer, reported}
use Rattle.fluid_rules.specs.Rules.{IsLegal, past_of, first_case, verdict, message, unsettled, settled, answer_message, kind_of, client, is_joined, last_number, is_nacked, reference, scopes, heard, minimum, is_nonexistent, is_noop, is_absorbed, submission_verdict, nack, sequenced, is_duplicate, leaves_gap, is_below_minimum, is_ahead, lacks_scope}
use Rattle.fluid_rules.proofs.Clients.{client-joined}
use Rattle.fluid_rules.proofs.Pushed.{client-push}
use Rattle.fluid_rules.proofs.Ids.{same_id, own_id}
use Rattle.fluid_rules.proofs.Verdicts.{sequenced-was, verdict-is_message, not_absorbed}
use Rattle.fluid_rules.proofs.Taken.{sequenced-taken}
use Rattle.fluid_rules.proofs.Legal.{legal-induction}
use Rattle.fluid_outbox.specs.Past.{is_text, leaves, of_op, op_of}
use Rattle.fluid_outbox.proofs.Tests.{no_test}
use Rattle.fluid_outbox.proofs.Sending.{some_is}

-- ---- texts of ids

-- two ids with one text are one
pub same_text : (a b : List ℕ) → printed (text a) ≡ printed (text b) → a ≡ b
same_text a b is =
    let inside : escape a ++ 34 ∷ [] ≡ escape b ++ 34 ∷ [] = append_cancel_left (34 ∷ []) (escape a ++ 34 ∷ []) (escape b ++ 34 ∷ []) is in
    some_is a b (sym (content-escape a []) ∙ ap (content plain) inside ∙ content-escape b [])

-- ---- what messages say of an id

-- the client number of an op under an id
abbrev pub under : List ℕ → Option (List ℕ × ℕ) → Option ℕ
under c None = None
under c (Some (id, number)) = if bytes_eq id c then Some number else None

abbrev pub numbers : List ℕ → List Message → List ℕ
numbers c ms = filter_map (λ m. under c (op_of m)) ms

cons_option-append : {Y : Type 0} (got : Option Y) (all prefix rest : List Y) → all ≡ prefix ++ rest → cons_option got all ≡ cons_option got prefix ++ rest
cons_option-append None all prefix rest is = is
cons_option-append (Some y) all prefix rest is = ap (λ ys. y ∷ ys) is

pub filter_map-append : {X Y : Type 0} (f : X → Option Y) (xs ys : List X) → filter_map f (xs ++ ys) ≡ filter_map f xs ++ filter_map f ys
filter_map-append f [] ys = refl
filter_map-append f (x ∷ xs) ys = cons_option-append (f x) (filter_map f (xs ++ ys)) (filter_map f xs) (filter_map f ys) (filter_map-append f xs ys)

pub any-append : {X : Type 0} (p : X → Bool) (xs ys : List X) → list_any p (xs ++ ys) ≡ (list_any p xs || list_any p ys)
any-append p [] ys = refl
any-append p (x ∷ xs) ys = ap (λ rest. p x || rest) (any-append p xs ys) ∙ assoc (p x) (list_any p xs) (list_any p ys)
  where
    assoc : (a b c : Bool) → (a || (b || c)) ≡ ((a || b) || c)
    assoc true b c = refl
    assoc false b c = refl

pub range-push : (start count : ℕ) → range_with_len start count ++ (start + count) ∷ [] ≡ range_with_len start (count + 1)
range-push start zero = ap (λ n. n ∷ []) (omega arith)
range-push start (suc count) =
    ap (λ (xs : List ℕ). start ∷ xs)
    (ap (λ n. range_with_len (start + 1) count ++ n ∷ []) (the_last start count) ∙ range-push (start + 1) count)
    ∙ ap (range_with_len start) (more count)
  where
    the_last : (start count : ℕ) → start + suc count ≡ start + 1 + count
    the_last start count = omega arith

    more : (count : ℕ) → suc (count + 1) ≡ suc count + 1
    more count = omega arith

-- none of the ops behind a leave is under its id
abbrev pub Quiet : List ℕ → List Message → Type 0
Quiet c [] = Unit {0}
Quiet c (m ∷ ms) = (leaves c m ≡ true → numbers c ms ≡ []) × Quiet c ms

quiet-push : (c : List ℕ) (ms : List Message) (x : Message) → Quiet c ms → (list_any (leaves c) ms ≡ true → under c (op_of x) ≡ None) → Quiet c (ms ++ x ∷ [])
quiet-push c [] x quiet none = (λ leaves. refl, tt)
quiet-push c (m ∷ ms) x quiet none = (
  λ left.
      filter_map-append (λ m. under c (op_of m)) ms (x ∷ [])
      ∙ rw (quiet.0 left, none (or_left (leaves c m) (list_any (leaves c) ms) left)) refl,
  quiet-push c ms x quiet.1 (λ later. none (or_right (leaves c m) (list_any (leaves c) ms) later)),
)

nothing_in : {X : Type 0} (xs ys : List X) → xs ++ ys ≡ [] → ys ≡ []
nothing_in [] ys is = is
nothing_in (x ∷ xs) ys is = absurd (cc)

pub quiet_behind : (c : List ℕ) (ms rest : List Message) → Quiet c (ms ++ rest) → list_any (leaves c) ms ≡ true → numbers c rest ≡ []
quiet_behind c [] rest quiet left = absurd (cc)
quiet_behind c (m ∷ ms) rest quiet left = elim (or_cases (leaves c m) (list_any (leaves c) ms) left) [
  | inl here ↦ nothing_in (numbers c ms) (numbers c rest) (sym (filter_map-append (λ m. under c (op_of m)) ms rest) ∙ quiet.0 here)
  | inr later ↦ quiet_behind c ms rest quiet.1 later
]

-- ---- which messages

op_none : (kind : Kind) → of_op {A = List ℕ × ℕ} kind None ≡ None
op_none kind.Op = refl
op_none kind.Noop = refl
op_none kind.Propose = refl
op_none kind.Reject = refl
op_none kind.Summarize = refl
op_none kind.Join = refl
op_none kind.Leave = refl
op_none kind.SummaryAck = refl
op_none kind.SummaryNack = refl

leave_none : (kind : Kind) → of_leave {A = List ℕ} kind None ≡ None
leave_none kind.Op = refl
leave_none kind.Noop = refl
leave_none kind.Propose = refl
leave_none kind.Reject = refl
leave_none kind.Summarize = refl
leave_none kind.Join = refl
leave_none kind.Leave = refl
leave_none kind.SummaryAck = refl
leave_none kind.SummaryNack = refl

-- a message that is no op under this id, and no leave of it
pub record Silent (c : List ℕ) (m : Message) : Type 0 where
  pub no_op : under c (op_of m) ≡ None
  pub no_leave : leaves c m ≡ false

pub joining_silent : (c : List ℕ) (l : Ledger) (id : List ℕ) (scopes : Scopes) (detail : Tree) (moment : ℕ) (m : Message) → message l (Join id scopes detail moment) ≡ Some m → Silent c m
unfolding message unsettled op_of leaves
joining_silent c l id scopes detail moment m is = rw (sym (some_is _ m is)) (record { no_op = refl; no_leave = refl })

pub leaving_op : (c : List ℕ) (l : Ledger) (id : List ℕ) (moment : ℕ) (m : Message) → message l (Leave id moment) ≡ Some m → under c (op_of m) ≡ None
unfolding message unsettled op_of
leaving_op c l id moment m is = rw (sym (some_is _ m is)) refl

leaving_silent : (c : List ℕ) (l : Ledger) (id : List ℕ) (moment : ℕ) (m : Message) → message l (Leave id moment) ≡ Some m → bytes_eq id c ≡ false → Silent c m
unfolding message unsettled op_of leaves
leaving_silent c l id moment m is other =
    rw (sym (some_is _ m is)) (record {
      no_op = refl;
      no_leave = false_from_ne_true _ (λ same.
          no_test (bytes_eq id c) (rw (same_text id c (same_id (printed (text id)) (printed (text c)) same)) (own_id c)) other);
    })

-- an op under its id has its number
pub submit_op : (l : Ledger) (id : List ℕ) (submission : Submission) (moment : ℕ) (m : Message) → message l (Submit id submission moment) ≡ Some m →
    op_of m ≡ of_op (kind_of submission.kind) (Some (id, submission.client_number))
unfolding message unsettled op_of
submit_op l id submission moment m is = rw (sym (some_is _ m is)) refl

submit_no_leave : (c : List ℕ) (l : Ledger) (id : List ℕ) (submission : Submission) (moment : ℕ) (m : Message) → message l (Submit id submission moment) ≡ Some m → leaves c m ≡ false
unfolding message unsettled leaves
submit_no_leave c l id submission moment m is =
    rw (sym (some_is _ m is)) (ap (λ (t : Option (List ℕ)). is_text t (printed (text c))) (leave_none (kind_of submission.kind)))

submitting_silent : (c : List ℕ) (l : Ledger) (id : List ℕ) (submission : Submission) (moment : ℕ) (m : Message) → message l (Submit id submission moment) ≡ Some m →
    bytes_eq id c ≡ false → Silent c m
submitting_silent c l id submission moment m is other = record {
  no_op = ap (under c) (submit_op l id submission moment m is) ∙ at submission.kind;
  no_leave = submit_no_leave c l id submission moment m is;
}
  where
    at : (offer : Offered) → under c (of_op (kind_of offer) (Some (id, submission.client_number))) ≡ None
    at offered.Op = rw other refl
    at offered.Noop = refl
    at offered.Propose = refl
    at offered.Reject = refl
    at offered.Summarize = refl

reporting_at : (c : List ℕ) (l : Ledger) (raw : Raw) (number moment : ℕ) (said : Option (Kind × Tree)) (m : Message) →
    option_map (settled l raw) (option_map (answer_message number moment) said) ≡ Some m → Silent c m
unfolding op_of leaves
reporting_at c l raw number moment None m is = absurd (cc)
reporting_at c l raw number moment (Some said) m is =
    rw (sym (some_is _ m is)) (record {
      no_op = ap (under c) (op_none said.0);
      no_leave = ap (λ (t : Option (List ℕ)). is_text t (printed (text c))) (leave_none said.0);
    })

pub reporting_silent : (c : List ℕ) (l : Ledger) (summary : ℕ) (found : Bool) (moment : ℕ) (m : Message) → message l (Report summary found moment) ≡ Some m → Silent c m
unfolding message unsettled
reporting_silent c l summary found moment m is =
    reporting_at c l (Report summary found moment) (seq l + 1) moment (reported summary (answer (order l) summary found)) m is

-- ---- an op is never absorbed

chain_not : (one two three four five six seven : Bool) (gap nonexistent below ahead scope : Nack) (last : Option Message) → seven ≡ false →
    first_case
    ((one, Dropped) ∷ (two, Nacked gap) ∷ (three, Nacked nonexistent) ∷ (four, Nacked below) ∷ (five, Nacked ahead) ∷ (six, Nacked scope) ∷ (seven, Absorbed) ∷ [])
    (sequenced last) ≡ Absorbed → ⊥
chain_not true two three four five six seven gap nonexistent below ahead scope last h is = cc
chain_not false true three four five six seven gap nonexistent below ahead scope last h is = cc
chain_not false false true four five six seven gap nonexistent below ahead scope last h is = cc
chain_not false false false true five six seven gap nonexistent below ahead scope last h is = cc
chain_not false false false false true six seven gap nonexistent below ahead scope last h is = cc
chain_not false false false false false true seven gap nonexistent below ahead scope last h is = cc
chain_not false false false false false false true gap nonexistent below ahead scope last h is = cc
chain_not false false false false false false false gap nonexistent below ahead scope last h is = not_absorbed last is

op_not_absorbed : (l : Ledger) (c : List ℕ) (submission : Submission) (moment : ℕ) → submission.kind ≡ offered.Op → verdict l (Submit c submission moment) ≡ Absorbed → ⊥
unfolding verdict submission_verdict nack
op_not_absorbed l c submission moment op is =
    chain_not (is_duplicate l c submission) (leaves_gap l c submission) (is_nonexistent l c) (is_below_minimum l submission) (is_ahead l submission) (lacks_scope l c submission)
    (is_absorbed l c submission) (nack l submission Gap) (nack l submission Nonexistent) (nack l submission Below) (nack l submission Ahead) (nack l submission Scope)
    (message l (Submit c submission moment)) (and_left (is_noop submission.kind) _ (ap is_noop op)) is

-- ---- what is told of an id by a ledger

abbrev pub joinings : List ℕ → Ledger → ℕ
joinings c l = length (filter_map (joins c) l)

-- of this id only ops are submitted
abbrev pub OnlyOps : List ℕ → Entry → Type 0
OnlyOps c (Join id scopes detail moment, verdict) = Unit {0}
OnlyOps c (Leave id moment, verdict) = Unit {0}
OnlyOps c (Submit id submission moment, verdict) = bytes_eq id c ≡ true → submission.kind ≡ offered.Op
OnlyOps c (Report summary found moment, verdict) = Unit {0}

pub record Tracked (c : List ℕ) (l : Ledger) : Type 0 where
  -- how many of its ops stand in the order
  pub count : ℕ
  pub numbers_are : numbers c (order l) ≡ range_with_len 1 count
  pub last_is : (said : Client) → client l c ≡ Some said → said.nacked ≡ false → said.last ≡ count
  pub once : (said : Client) → client l c ≡ Some said → 1 ≤ joinings c l
  pub fresh : joinings c l ≡ 0 → count ≡ 0
  pub gone : list_any (leaves c) (order l) ≡ true → (client l c ≡ None) × (1 ≤ joinings c l)
  pub quiet : Quiet c (order l)

-- an entry that says nothing of it: at most one message, and what is said of the client keeps its number where it isn't refused
record SaysNothing (c : List ℕ) (l : Ledger) (entry : Entry) : Type 0 where
  no_join : joins c entry ≡ None
  message : (messages_of entry.1 ≡ []) ⊎ ((m : Message) × ((messages_of entry.1 ≡ m ∷ []) × Silent c m))
  said : (after : Client) → client (l ++ entry ∷ []) c ≡ Some after →
      (before : Client) × ((client l c ≡ Some before) × (after.nacked ≡ false → (before.nacked ≡ false) × (after.last ≡ before.last)))

module _ (c : List ℕ) (l : Ledger) (entry : Entry) (t : Tracked c l) where
  abbrev after : Ledger
  after = l ++ entry ∷ []

  joinings-push : joinings c after ≡ joinings c l + length (filter_map (joins c) (entry ∷ []))
  joinings-push = ap (λ (xs : List Scopes). length xs) (filter_map-append (joins c) l (entry ∷ [])) ∙ length-append (filter_map (joins c) l) (filter_map (joins c) (entry ∷ []))

  none_kept : (o : Option Client) → client after c ≡ o → ((said : Client) → o ≡ Some said → (before : Client) × (client l c ≡ Some before)) → client l c ≡ None → client after c ≡ None
  none_kept None is back none = is
  none_kept (Some said) is back none =
      let was = back said refl in
      absurd (let no : None ≡ Some was.0 = sym none ∙ was.1 in cc)

  silent_numbers : (ms : List Message) → (ms ≡ []) ⊎ ((m : Message) × ((ms ≡ m ∷ []) × Silent c m)) →
      (numbers c ms ≡ []) × (list_any (leaves c) ms ≡ false)
  silent_numbers ms (inl none) = rw none (refl, refl)
  silent_numbers ms (inr (m, (one, silent))) = rw (one, silent.no_op, silent.no_leave) (refl, refl)

  quiet_after : (ms : List Message) → (ms ≡ []) ⊎ ((m : Message) × ((ms ≡ m ∷ []) × Silent c m)) → Quiet c (order l ++ ms)
  quiet_after ms (inl none) = rw (none, append-nil (order l)) t.quiet
  quiet_after ms (inr (m, (one, silent))) = rw one (quiet-push c (order l) m t.quiet (λ left. silent.no_op))

  left_before : (ms : List Message) → list_any (leaves c) ms ≡ false → list_any (leaves c) (order l ++ ms) ≡ true → list_any (leaves c) (order l) ≡ true
  left_before ms none left = elim (or_cases (list_any (leaves c) (order l)) (list_any (leaves c) ms) (sym (any-append (leaves c) (order l) ms) ∙ left)) [
    | inl before ↦ before
    | inr now ↦ absurd (no_test _ now none)
  ]

  nothing_said : SaysNothing c l entry → Tracked c after
  nothing_said says =
      let ms = messages_of entry.1 in
      let silent = silent_numbers ms says.message in
      let same : joinings c after ≡ joinings c l = joinings-push ∙ rw says.no_join (omega arith) in
      record {
        count = t.count;
        numbers_are = ap (numbers c) (order-push l entry) ∙ filter_map-append (λ m. under c (op_of m)) (order l) ms ∙ ap (λ (ns : List ℕ). numbers c (order l) ++ ns) silent.0
            ∙ append-nil (numbers c (order l)) ∙ t.numbers_are;
        last_is = λ said is still.
            let was = says.said said is in
            let kept = was.1.1 still in
            kept.1 ∙ t.last_is was.0 was.1.0 kept.0;
        once = λ said is. let was = says.said said is in omega (arith, t.once was.0 was.1.0, same);
        fresh = λ none. t.fresh (omega (arith, none, same));
        gone = λ left.
            let before = t.gone (left_before ms silent.1 (ap (list_any (leaves c)) (sym (order-push l entry)) ∙ left)) in (
              none_kept (client after c) refl (λ said is. let was = says.said said is in (was.0, was.1.0)) before.0,
              omega (arith, before.1, same),
            );
        quiet = subst (Quiet c) (sym (order-push l entry)) (quiet_after ms says.message);
      }

-- ---- what entries say of a client

same_said : (c : List ℕ) (l : Ledger) (entry : Entry) → client (l ++ entry ∷ []) c ≡ client l c → (after : Client) → client (l ++ entry ∷ []) c ≡ Some after →
    (before : Client) × ((client l c ≡ Some before) × (after.nacked ≡ false → (before.nacked ≡ false) × (after.last ≡ before.last)))
same_said c l entry same after is = (after, (sym same ∙ is, λ still. (still, refl)))

-- a client of which only the moment, or a refusal, is new
mapped_said : (f : Client → Client) → ((before : Client) → (f before).nacked ≡ false → (before.nacked ≡ false) × ((f before).last ≡ before.last)) →
    (o : Option Client) (after : Client) → option_map f o ≡ Some after →
    (before : Client) × ((o ≡ Some before) × (after.nacked ≡ false → (before.nacked ≡ false) × (after.last ≡ before.last)))
mapped_said f keeps None after is = absurd (cc)
mapped_said f keeps (Some before) after is =
    let same = some_is (f before) after is in (
      before,
      (
        refl,
        λ still.
            let kept = keeps before (ap (λ (x : Client). x.nacked) same ∙ still) in
            (kept.0, ap (λ (x : Client). x.last) (sym same) ∙ kept.1),
      ),
    )

heard_keeps : (moment : ℕ) (before : Client) → (client_heard moment before).nacked ≡ false → (before.nacked ≡ false) × ((client_heard moment before).last ≡ before.last)
heard_keeps moment before still = (still, refl)

nacked_keeps : (below : Bool) (sequence moment : ℕ) (submission : Submission) (n : Nack) (before : Client) → is_below n.rule ≡ below →
    (client_heard moment (client_submitting sequence submission (Nacked n) before)).nacked ≡ false →
    (before.nacked ≡ false) × ((client_heard moment (client_submitting sequence submission (Nacked n) before)).last ≡ before.last)
nacked_keeps true sequence moment submission n before h still = absurd (let no : true ≡ false = rw h at still in cc)
nacked_keeps false sequence moment submission n before h still =
    let was : before.nacked ≡ false = rw h at still in
    (was, rw h refl)

-- from what it was by the rule for one entry more
pushed_said : (c : List ℕ) (l : Ledger) (entry : Entry) (o : Option Client) → client_behind entry (seq l) (minimum l) c (client l c) ≡ o → client (l ++ entry ∷ []) c ≡ o
pushed_said c l entry o is = client-push l entry c ∙ is

join_said : (c : List ℕ) (l : Ledger) (id : List ℕ) (scopes : Scopes) (detail : Tree) (moment : ℕ) (v : Verdict) (same : Bool) → bytes_eq id c ≡ same →
    client_behind (Join id scopes detail moment, v) (seq l) (minimum l) c (client l c) ≡ (if same then client_behind (Join c scopes detail moment, v) (seq l) (minimum l) c (client l c) else client l c)
join_said c l id scopes detail moment v true h = rw (same_id id c h) refl
join_said c l id scopes detail moment v false h = rw h refl

-- a join that isn't sequenced
join_dropped : (c : List ℕ) (l : Ledger) (id : List ℕ) (scopes : Scopes) (detail : Tree) (moment : ℕ) (v : Verdict) (same : Bool) → bytes_eq id c ≡ same →
    ((x : List ℕ) → client_behind (Join x scopes detail moment, v) (seq l) (minimum l) c (client l c) ≡ (if bytes_eq x c then option_map (client_heard moment) (client l c) else client l c)) →
    (after : Client) → client (l ++ (Join id scopes detail moment, v) ∷ []) c ≡ Some after →
    (before : Client) × ((client l c ≡ Some before) × (after.nacked ≡ false → (before.nacked ≡ false) × (after.last ≡ before.last)))
join_dropped c l id scopes detail moment v true h by after is =
    mapped_said (client_heard moment) (heard_keeps moment) (client l c) after (sym (client-push l (Join id scopes detail moment, v) c ∙ by id ∙ rw h refl) ∙ is)
join_dropped c l id scopes detail moment v false h by after is =
    same_said c l (Join id scopes detail moment, v) (client-push l (Join id scopes detail moment, v) c ∙ by id ∙ rw h refl) after is

leave_dropped : (c : List ℕ) (l : Ledger) (id : List ℕ) (moment : ℕ) (v : Verdict) (same : Bool) → bytes_eq id c ≡ same →
    ((x : List ℕ) → client_behind (Leave x moment, v) (seq l) (minimum l) c (client l c) ≡ (if bytes_eq x c then option_map (client_heard moment) (client l c) else client l c)) →
    (after : Client) → client (l ++ (Leave id moment, v) ∷ []) c ≡ Some after →
    (before : Client) × ((client l c ≡ Some before) × (after.nacked ≡ false → (before.nacked ≡ false) × (after.last ≡ before.last)))
leave_dropped c l id moment v true h by after is =
    mapped_said (client_heard moment) (heard_keeps moment) (client l c) after (sym (client-push l (Leave id moment, v) c ∙ by id ∙ rw h refl) ∙ is)
leave_dropped c l id moment v false h by after is =
    same_said c l (Leave id moment, v) (client-push l (Leave id moment, v) c ∙ by id ∙ rw h refl) after is

-- a submission that isn't taken
submit_refused : (c : List ℕ) (l : Ledger) (id : List ℕ) (submission : Submission) (moment : ℕ) (v : Verdict) (same : Bool) → bytes_eq id c ≡ same →
    ((before : Client) → (client_heard moment (client_submitting (seq l) submission v before)).nacked ≡ false →
    (before.nacked ≡ false) × ((client_heard moment (client_submitting (seq l) submission v before)).last ≡ before.last)) →
    (after : Client) → client (l ++ (Submit id submission moment, v) ∷ []) c ≡ Some after →
    (before : Client) × ((client l c ≡ Some before) × (after.nacked ≡ false → (before.nacked ≡ false) × (after.last ≡ before.last)))
submit_refused c l id submission moment v true h keeps after is =
    mapped_said (λ x. client_heard moment (client_submitting (seq l) submission v x)) keeps (client l c) after
    (sym (client-push l (Submit id submission moment, v) c ∙ rw h refl) ∙ is)
submit_refused c l id submission moment v false h keeps after is =
    same_said c l (Submit id submission moment, v) (client-push l (Submit id submission moment, v) c ∙ rw h refl) after is

-- ---- entries that say something of it

module _ (c : List ℕ) (l : Ledger) (t : Tracked c l) where
  -- a message is all that is behind the order, and no op under the id
  numbers_same : (entry : Entry) (m : Message) → messages_of entry.1 ≡ m ∷ [] → under c (op_of m) ≡ None → numbers c (order (l ++ entry ∷ [])) ≡ range_with_len 1 t.count
  numbers_same entry m one none =
      ap (numbers c) (order-push l entry) ∙ filter_map-append (λ m. under c (op_of m)) (order l) (messages_of entry.1)
      ∙ ap (λ (ms : List Message). numbers c (order l) ++ numbers c ms) one
      ∙ rw none (append-nil (numbers c (order l))) ∙ t.numbers_are

  own_join : (id : List ℕ) (scopes : Scopes) (detail : Tree) (moment : ℕ) (m : Message) → message l (Join id scopes detail moment) ≡ Some m → bytes_eq id c ≡ true →
      joinings c (l ++ (Join id scopes detail moment, Sequenced m) ∷ []) ≤ 1 → Tracked c (l ++ (Join id scopes detail moment, Sequenced m) ∷ [])
  own_join id scopes detail moment m is own once =
      let entry : Entry = (Join id scopes detail moment, Sequenced m) in
      let silent = joining_silent c l id scopes detail moment m is in
      let more : joinings c (l ++ entry ∷ []) ≡ joinings c l + 1 = joinings-push c l entry t ∙ rw own refl in
      let none : joinings c l ≡ 0 = omega (arith, more, once) in
      let now : client (l ++ entry ∷ []) c ≡ Some (record { last = 0; reference = minimum l; nacked = false; scopes = scopes; heard = moment }) = client-push l entry c ∙ rw own refl in
      record {
        count = t.count;
        numbers_are = numbers_same entry m refl silent.no_op;
        last_is = λ said it still. ap (λ (x : Client). x.last) (sym (some_is _ said (sym now ∙ it))) ∙ sym (t.fresh none);
        once = λ said it. omega (arith, more);
        fresh = λ no. absurd (omega (arith, no, more));
        gone = λ left.
            absurd
            (let before = t.gone (left_before c l entry t (m ∷ []) (rw silent.no_leave refl) (ap (list_any (leaves c)) (sym (order-push l entry)) ∙ left)) in
            omega (arith, before.1, none));
        quiet = subst (Quiet c) (sym (order-push l entry)) (quiet-push c (order l) m t.quiet (λ left. silent.no_op));
      }

  leave_joined : (joined : Bool) (id : List ℕ) (moment : ℕ) (m : Message) → is_joined l id ≡ joined → Sequenced m ≡ verdict l (Leave id moment) → is_joined l id ≡ true
  unfolding verdict
  leave_joined true id moment m h is = h
  leave_joined false id moment m h is = absurd (let no : Sequenced m ≡ Dropped = rw h at is in cc)

  own_leave : (id : List ℕ) (moment : ℕ) (m : Message) → Sequenced m ≡ verdict l (Leave id moment) → bytes_eq id c ≡ true →
      Tracked c (l ++ (Leave id moment, Sequenced m) ∷ [])
  own_leave id moment m is own =
      let entry : Entry = (Leave id moment, Sequenced m) in
      let none = leaving_op c l id moment m (verdict-is_message l (Leave id moment) m (sym is)) in
      let same : joinings c (l ++ entry ∷ []) ≡ joinings c l = joinings-push c l entry t ∙ omega arith in
      let joined : is_joined l c ≡ true = ap (is_joined l) (sym (same_id id c own)) ∙ leave_joined (is_joined l id) id moment m refl is in
      let before = t.once _ (client-joined l c joined) in
      let now : client (l ++ entry ∷ []) c ≡ None = client-push l entry c ∙ rw own refl in
      record {
        count = t.count;
        numbers_are = numbers_same entry m refl none;
        last_is = λ said it still. absurd (let no : None ≡ Some said = sym now ∙ it in cc);
        once = λ said it. absurd (let no : None ≡ Some said = sym now ∙ it in cc);
        fresh = λ no. absurd (omega (arith, no, same, before));
        gone = λ left. (now, omega (arith, same, before));
        quiet = subst (Quiet c) (sym (order-push l entry)) (quiet-push c (order l) m t.quiet (λ left. none));
      }

  -- the client isn't refused
  or_second : (a b : Bool) → (a || b) ≡ false → b ≡ false
  or_second a b is = (or_parts a b is).1

  own_submit : (id : List ℕ) (submission : Submission) (moment : ℕ) (m : Message) → Sequenced m ≡ verdict l (Submit id submission moment) → bytes_eq id c ≡ true →
      submission.kind ≡ offered.Op → Tracked c (l ++ (Submit id submission moment, Sequenced m) ∷ [])
  unfolding verdict
  own_submit id submission moment m is own op =
      let entry : Entry = (Submit id submission moment, Sequenced m) in
      let ids : id ≡ c = same_id id c own in
      let was = sequenced-was l id submission moment m is in
      let taken = sequenced-taken l id submission moment m (sym is) in
      let joined : is_joined l c ≡ true = ap (is_joined l) (sym ids) ∙ taken.joined in
      let open_ : is_nacked l c ≡ false = ap (is_nacked l) (sym ids) ∙ or_second (not (is_joined l id)) (is_nacked l id) was.passes.in_order in
      let said = client-joined l c joined in
      let last : last_number l c ≡ t.count = t.last_is _ said open_ in
      let number : submission.client_number ≡ t.count + 1 = taken.next ∙ ap (λ x. last_number l x + 1) ids ∙ ap (λ n. n + 1) last in
      let op_is : op_of m ≡ Some (id, submission.client_number) = submit_op l id submission moment m was.is_message ∙ rw op refl in
      let under_is : under c (op_of m) ≡ Some (t.count + 1) = ap (under c) op_is ∙ rw own (ap Some number) in
      let no_leave : leaves c m ≡ false = submit_no_leave c l id submission moment m was.is_message in
      let same : joinings c (l ++ entry ∷ []) ≡ joinings c l = joinings-push c l entry t ∙ omega arith in
      let before = t.once _ said in
      let now : client (l ++ entry ∷ []) c
      ≡ Some (client_heard moment (client_taking submission.client_number (count_of m.reference)
      (record { last = last_number l c; reference = reference l c; nacked = is_nacked l c; scopes = scopes l c; heard = heard l c }))) =
      client-push l entry c ∙ rw (own, said) refl in
      let not_gone : list_any (leaves c) (order l) ≡ true → ⊥ = λ left. let no = sym (t.gone left).0 ∙ said in cc in
      record {
        count = t.count + 1;
        numbers_are =
            ap (numbers c) (order-push l entry) ∙ filter_map-append (λ m. under c (op_of m)) (order l) (m ∷ [])
            ∙ rw (under_is, t.numbers_are) (ap (λ n. range_with_len 1 t.count ++ n ∷ []) (one_more t.count) ∙ range-push 1 t.count);
        last_is = λ later it still. ap (λ (x : Client). x.last) (sym (some_is _ later (sym now ∙ it))) ∙ number;
        once = λ later it. omega (arith, same, before);
        fresh = λ no. absurd (omega (arith, no, same, before));
        gone = λ left. absurd (not_gone (left_before c l entry t (m ∷ []) (rw no_leave refl) (ap (list_any (leaves c)) (sym (order-push l entry)) ∙ left)));
        quiet = subst (Quiet c) (sym (order-push l entry)) (quiet-push c (order l) m t.quiet (λ left. absurd (not_gone left)));
      }
    where
      one_more : (n : ℕ) → n + 1 ≡ 1 + n
      one_more n = omega arith

  silent_entry : (entry : Entry) (m : Message) → entry.1 ≡ Sequenced m → joins c entry ≡ None → Silent c m →
      client_behind entry (seq l) (minimum l) c (client l c) ≡ client l c → Tracked c (l ++ entry ∷ [])
  silent_entry entry m is none silent same =
      nothing_said c l entry t (record {
        no_join = none;
        message = inr (m, (ap messages_of is, silent));
        said = same_said c l entry (client-push l entry c ∙ same);
      })

  step_join : (id : List ℕ) (scopes : Scopes) (detail : Tree) (moment : ℕ) (v : Verdict) → v ≡ verdict l (Join id scopes detail moment) →
      joinings c (l ++ (Join id scopes detail moment, v) ∷ []) ≤ 1 → (own : Bool) → bytes_eq id c ≡ own → Tracked c (l ++ (Join id scopes detail moment, v) ∷ [])
  step_join id scopes detail moment (Sequenced m) is once true own = own_join id scopes detail moment m (verdict-is_message l _ m (sym is)) own once
  step_join id scopes detail moment (Sequenced m) is once false other =
      silent_entry (Join id scopes detail moment, Sequenced m) m refl (rw other refl) (joining_silent c l id scopes detail moment m (verdict-is_message l _ m (sym is))) (rw other refl)
  step_join id scopes detail moment (Nacked n) is once own h =
      nothing_said c l (Join id scopes detail moment, Nacked n) t (record { no_join = refl; message = inl refl; said = join_dropped c l id scopes detail moment (Nacked n) own h (λ x. refl) })
  step_join id scopes detail moment Dropped is once own h =
      nothing_said c l (Join id scopes detail moment, Dropped) t (record { no_join = refl; message = inl refl; said = join_dropped c l id scopes detail moment Dropped own h (λ x. refl) })
  step_join id scopes detail moment Absorbed is once own h =
      nothing_said c l (Join id scopes detail moment, Absorbed) t (record { no_join = refl; message = inl refl; said = join_dropped c l id scopes detail moment Absorbed own h (λ x. refl) })

  step_leave : (id : List ℕ) (moment : ℕ) (v : Verdict) → v ≡ verdict l (Leave id moment) → (own : Bool) → bytes_eq id c ≡ own → Tracked c (l ++ (Leave id moment, v) ∷ [])
  step_leave id moment (Sequenced m) is true own = own_leave id moment m is own
  step_leave id moment (Sequenced m) is false other =
      silent_entry (Leave id moment, Sequenced m) m refl refl (leaving_silent c l id moment m (verdict-is_message l _ m (sym is)) other) (rw other refl)
  step_leave id moment (Nacked n) is own h =
      nothing_said c l (Leave id moment, Nacked n) t (record { no_join = refl; message = inl refl; said = leave_dropped c l id moment (Nacked n) own h (λ x. refl) })
  step_leave id moment Dropped is own h =
      nothing_said c l (Leave id moment, Dropped) t (record { no_join = refl; message = inl refl; said = leave_dropped c l id moment Dropped own h (λ x. refl) })
  step_leave id moment Absorbed is own h =
      nothing_said c l (Leave id moment, Absorbed) t (record { no_join = refl; message = inl refl; said = leave_dropped c l id moment Absorbed own h (λ x. refl) })

  step_submit : (id : List ℕ) (submission : Submission) (moment : ℕ) (v : Verdict) → v ≡ verdict l (Submit id submission moment) →
      (bytes_eq id c ≡ true → submission.kind ≡ offered.Op) → (own : Bool) → bytes_eq id c ≡ own → Tracked c (l ++ (Submit id submission moment, v) ∷ [])
  step_submit id submission moment (Sequenced m) is ops true own = own_submit id submission moment m is own (ops own)
  step_submit id submission moment (Sequenced m) is ops false other =
      silent_entry (Submit id submission moment, Sequenced m) m refl refl (submitting_silent c l id submission moment m (verdict-is_message l _ m (sym is)) other) (rw other refl)
  step_submit id submission moment (Nacked n) is ops own h =
      nothing_said c l (Submit id submission moment, Nacked n) t (record {
        no_join = refl;
        message = inl refl;
        said = submit_refused c l id submission moment (Nacked n) own h (λ before. nacked_keeps (is_below n.rule) (seq l) moment submission n before refl);
      })
  step_submit id submission moment Dropped is ops own h =
      nothing_said c l (Submit id submission moment, Dropped) t (record {
        no_join = refl;
        message = inl refl;
        said = submit_refused c l id submission moment Dropped own h (heard_keeps moment);
      })
  step_submit id submission moment Absorbed is ops true own = absurd (op_not_absorbed l id submission moment (ops own) (sym is))
  step_submit id submission moment Absorbed is ops false other =
      nothing_said c l (Submit id submission moment, Absorbed) t (record {
        no_join = refl;
        message = inl refl;
        said = same_said c l (Submit id submission moment, Absorbed) (client-push l (Submit id submission moment, Absorbed) c ∙ rw other refl);
      })

  step_report : (summary : ℕ) (found : Bool) (moment : ℕ) (v : Verdict) → v ≡ verdict l (Report summary found moment) → Tracked c (l ++ (Report summary found moment, v) ∷ [])
  step_report summary found moment (Sequenced m) is =
      silent_entry (Report summary found moment, Sequenced m) m refl refl (reporting_silent c l summary found moment m (verdict-is_message l _ m (sym is))) refl
  step_report summary found moment (Nacked n) is = nothing_said c l (Report summary found moment, Nacked n) t (record { no_join = refl; message = inl refl; said = same_said c l _ (client-push l _ c) })
  step_report summary found moment Dropped is = nothing_said c l (Report summary found moment, Dropped) t (record { no_join = refl; message = inl refl; said = same_said c l _ (client-push l _ c) })
  step_report summary found moment Absorbed is = nothing_said c l (Report summary found moment, Absorbed) t (record { no_join = refl; message = inl refl; said = same_said c l _ (client-push l _ c) })

  step : (entry : Entry) → entry.1 ≡ verdict l entry.0 → OnlyOps c entry → joinings c (l ++ entry ∷ []) ≤ 1 → Tracked c (l ++ entry ∷ [])
  step (Join id scopes detail moment, v) is ops once = step_join id scopes detail moment v is once (bytes_eq id c) refl
  step (Leave id moment, v) is ops once = step_leave id moment v is (bytes_eq id c) refl
  step (Submit id submission moment, v) is ops once = step_submit id submission moment v is ops (bytes_eq id c) refl
  step (Report summary found moment, v) is ops once = step_report summary found moment v is

-- ---- every legal ledger

tracked_none : (c : List ℕ) → Tracked c []
unfolding order client past_of past.client past.membership
tracked_none c = record {
  count = 0;
  numbers_are = refl;
  last_is = λ said is still. absurd (cc);
  once = λ said is. absurd (cc);
  fresh = λ none. refl;
  gone = λ left. absurd (cc);
  quiet = tt;
}

pub each-append : {X : Type 0} (P : X → Type 0) (xs ys : List X) → AllByRecursion P (xs ++ ys) → AllByRecursion P xs × AllByRecursion P ys
each-append P [] ys each = (tt, each)
each-append P (x ∷ xs) ys each =
    let rest = each-append P xs ys each.1 in
    ((each.0, rest.0), rest.1)

abbrev Grows : List ℕ → Ledger → Type 0
Grows c l = AllByRecursion (OnlyOps c) l → joinings c l ≤ 1 → Tracked c l

grows : (c : List ℕ) (l : Ledger) (entry : Entry) → IsLegal l → Grows c l → entry.1 ≡ verdict l entry.0 → Grows c (l ++ entry ∷ [])
grows c l entry legal tracked is ops once =
    let parts = each-append (OnlyOps c) l (entry ∷ []) ops in
    let fewer : joinings c l ≤ 1 =
    omega
    (arith, once, ap (λ (xs : List Scopes). length xs) (filter_map-append (joins c) l (entry ∷ [])), length-append (filter_map (joins c) l) (filter_map (joins c) (entry ∷ []))) in
    step c l (tracked parts.0 fewer) entry is parts.1.0 once

pub tracked : (c : List ℕ) (l : Ledger) → IsLegal l → AllByRecursion (OnlyOps c) l → joinings c l ≤ 1 → Tracked c l
tracked c l legal ops once = legal-induction (Grows c) (λ _ _. tracked_none c) (grows c) l legal ops once
