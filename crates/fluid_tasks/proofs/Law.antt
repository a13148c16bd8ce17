-- In every legal ledger's order each item is free, held by a member, or gone, and the holder of a task is a member.
use Rattle.std.proofs.Common.{◌≡◌, ℕ, zero, suc, ◌+◌, ◌≤◌, ◌==◌, Bool, true, false, not, ◌&&◌, ◌||◌, cond, List, [], ◌∷◌, ◌++◌, reverse, length, take, Option, Some, None, option_map, refl, sym, ◌∙◌, ap, ap₂, subst, arith, append_assoc, append-nil, inl, inr, ◌⊎◌, bytes_eq, Ok}
use Rattle.std.specs.Prelude.{filter, is_some, option_to_list}
use Rattle.std.specs.List.{AllByRecursion, list_any}
use Rattle.std.specs.FinMap.{get}
use Rattle.std.specs.FinMap.Entries.{find}
use Rattle.std.proofs.lemmas.Bool.{eqb-true, eq-eqb, false_from_ne_true}
use Rattle.std.proofs.lemmas.Slice.Eq.{bytes_eq-Decides}
use Rattle.fluid_json.specs.Tree.{Tree, text}
use Rattle.std.proofs.lemmas.List.{reverse-append, length-reverse}
use Rattle.std.proofs.lemmas.List.Elements.{filter-append}
use Rattle.std.proofs.lemmas.Map.Text.{is_eq-slice_cmp}
use Rattle.fluid_json.specs.Printed.{printed}
use Rattle.fluid_json.specs.Spelled.{answer}
use Rattle.fluid_json.proofs.ReadBack.{answers_itself}
use Rattle.fluid_types.specs.declared.entries.Raw.{Raw}
use Rattle.fluid_types.specs.declared.entries.Raw.TheVariants.{Join, Leave, Submit, Report}
use Rattle.fluid_types.specs.declared.entries.Scopes.{Scopes}
use Rattle.fluid_types.specs.declared.entries.Submission.{Submission}
use Rattle.fluid_types.specs.declared.messages.Message.{Message}
use Rattle.fluid_types.specs.declared.verdicts.Verdict.{Verdict}
use Rattle.fluid_types.specs.declared.verdicts.Verdict.TheVariants.{Sequenced, Nacked, Dropped, Absorbed}
use Rattle.fluid_types.specs.Quorum.{left_by, member_of}
use Rattle.fluid_types.specs.Ledger.{Ledger, messages_of, order, seq}
use Rattle.fluid_types.proofs.Ledgers.{order-push}
use Rattle.fluid_rules.specs.Past as entries
use Rattle.fluid_rules.specs.Rules as rule
use Rattle.fluid_rules.specs.Past.{Entry, Client, client_behind}
use Rattle.fluid_rules.specs.Rules.{IsLegal, verdict, message, client, is_joined, minimum}
use Rattle.fluid_types.specs.Texts.{name_of}
use Rattle.fluid_types.specs.declared.messages.Kind.{Kind}
use Rattle.fluid_types.specs.declared.messages.Kind.TheVariants as kind
use Rattle.fluid_types.specs.declared.quorum.Member.{Member}
use Rattle.fluid_types.specs.Quorum.{of_leave, of_join, leaves, unless_left, standing as present, members, quorum_of}
use Rattle.fluid_types.proofs.Tables.{get-latest}
use Rattle.fluid_table.specs.Table.{byte_order}
use Rattle.fluid_rules.specs.Past.{client_heard, client_submitting, is_sequenced}
use Rattle.fluid_rules.specs.Rules.{unsettled, settled, kind_of, join_data, answer_message}
use Rattle.fluid_rules.specs.Scribe.{answer as scribe_answer, reported}
use Rattle.fluid_rules.proofs.Ids.{same_id, own_id}
use Rattle.fluid_rules.proofs.Clients.{client-joined}
use Rattle.fluid_rules.proofs.Pushed.{client-push}
use Rattle.fluid_rules.proofs.Verdicts.{verdict-is_message, message-number}
use Rattle.fluid_rules.proofs.Taken.{sequenced-taken}
use Rattle.fluid_rules.proofs.Legal.{legal-induction}
use Rattle.fluid_tasks.specs.declared.acts.Act.{Act}
use Rattle.fluid_tasks.specs.declared.acts.Act.TheVariants.{Add, Acquire, Complete, Release, Volunteer, Abandon, Finish}
use Rattle.fluid_tasks.specs.Acts.{Said, Does, Leaves, Nothing, said, done, act_of}
use Rattle.fluid_tasks.specs.Past.{Past, past_of, first, is_text, is_number, numbers, adds, items, added, is_of, Status, NoItem, Free, Held, Gone, is_free_since, holder_in, is_held_by, is_there, status, status_behind, live, value, Volunteering, standing, clients, candidates, standing_since, since_behind, free, holder}
use Rattle.fluid_tasks.specs.Kept.{IsNumbered}
use Rattle.fluid_tasks.proofs.Lists.{no_test, or_left, mem, mem-append, turns, self}
use Rattle.fluid_tasks.proofs.Facts.{status-step, added-step, mem-items, of_mem, IsFreeIn, all_free}
use Rattle.fluid_tasks.proofs.Candidates.{since-step, standing_stand}
use Rattle.fluid_tasks.specs.declared.tasks.Item.{Item}
use Rattle.fluid_tasks.specs.Laws.{IsReadable, IsToldSo, IsMember, IsInOnePlace, HoldsBehind, OneHolderAtATime}
use Rattle.fluid_tasks.proofs.Freeing.{test, free-turns, added-kept}
use Rattle.fluid_tasks.proofs.Applied.{live-is, holder_of-is}
use Rattle.fluid_tasks.proofs.Left.{mem-filter}

-- ---- what one message more gives

-- a client leaves with it
abbrev pub IsLeft : List ℕ → Said → Type 0
IsLeft c (Does e act) = ⊥
IsLeft c (Leaves e) = bytes_eq e c ≡ true
IsLeft c Nothing = ⊥

-- a client does something with it
abbrev pub IsDoing : List ℕ → Said → Type 0
IsDoing c (Does e act) = e ≡ c
IsDoing c (Leaves e) = ⊥
IsDoing c Nothing = ⊥

-- who holds an item behind a message held it before and doesn't leave with it, or does something with it
pub held_from : (m : Message) (past : Past) (d : Said) → said m ≡ d → (c : List ℕ) (i : ℕ) → is_held_by c (status (m ∷ past) i) ≡ true → ((is_held_by c (status past i) ≡ true) × (IsLeft c d → ⊥)) ⊎ IsDoing c d
held_from m past d is c i now = of d is (sym (ap (is_held_by c) (status-step m past d is i)) ∙ now)
  where
    freed : (b : Bool) → is_held_by c (cond b (Free m.number) (status past i)) ≡ true → is_held_by c (status past i) ≡ true
    freed true h = absurd (let wrong : false ≡ true = h in cc)
    freed false h = h

    gone : (b : Bool) → is_held_by c (cond b Gone (status past i)) ≡ true → is_held_by c (status past i) ≡ true
    gone true h = absurd (let wrong : false ≡ true = h in cc)
    gone false h = h

    given : (b : Bool) (e : List ℕ) → is_held_by c (cond b (Held e) (status past i)) ≡ true → (is_held_by c (status past i) ≡ true) ⊎ (e ≡ c)
    given true e h = inr ((bytes_eq-Decides e c).0 h)
    given false e h = inl h

    left : (b : Bool) (e : List ℕ) → is_held_by e (status past i) ≡ b → is_held_by c (cond b (Free m.number) (status past i)) ≡ true → (is_held_by c (status past i) ≡ true) × (bytes_eq e c ≡ true → ⊥)
    left true e at h = absurd (let wrong : false ≡ true = h in cc)
    left false e at h = (h, λ same. no_test (is_held_by e (status past i)) (subst (λ w. is_held_by w (status past i) ≡ true) (sym ((bytes_eq-Decides e c).0 same)) h) at)

    of : (d : Said) → said m ≡ d → is_held_by c (status_behind m.number d (λ queue. is_of past queue i) (λ queue. first (free past queue)) i (status past i)) ≡ true
        → ((is_held_by c (status past i) ≡ true) × (IsLeft c d → ⊥)) ⊎ IsDoing c d
    of (Does e (Add queue value)) at h = inl (freed (m.number == i) h, λ no_leave. no_leave)
    of (Does e (Acquire queue)) at h = elim (given (is_number (first (free past queue)) i) e h) [
      | inl before ↦ inl (before, λ no_leave. no_leave)
      | inr own ↦ inr own
    ]
    of (Does e (Complete queue own)) at h = inl (gone ((own == i) && (is_of past queue i && is_held_by e (status past i))) h, λ no_leave. no_leave)
    of (Does e (Release queue own)) at h = inl (freed ((own == i) && (is_of past queue i && is_held_by e (status past i))) h, λ no_leave. no_leave)
    of (Does e (Volunteer task)) at h = inl (h, λ no_leave. no_leave)
    of (Does e (Abandon task)) at h = inl (h, λ no_leave. no_leave)
    of (Does e (Finish task)) at h = inl (h, λ no_leave. no_leave)
    of (Leaves e) at h = inl (left (is_held_by e (status past i)) e refl h)
    of Nothing at h = inl (h, λ no_leave. no_leave)

pub stood_from : (m : Message) (past : Past) (d : Said) → said m ≡ d → (u c : List ℕ) (k : ℕ) → standing_since (m ∷ past) u c ≡ Some k → ((standing_since past u c ≡ Some k) × (IsLeft c d → ⊥)) ⊎ IsDoing c d
stood_from m past d is u c k now = of d is (sym (since-step m past d is u c) ∙ now)
  where
    none : (b : Bool) → cond b None (standing_since past u c) ≡ Some k → standing_since past u c ≡ Some k
    none true h = absurd (let wrong : ◌≡◌ {A = Option ℕ} None (Some k) = h in cc)
    none false h = h

    volunteered : (a b n : Bool) (e : List ℕ) → bytes_eq e c ≡ b → cond (a && (b && n)) (Some m.number) (standing_since past u c) ≡ Some k → (standing_since past u c ≡ Some k) ⊎ (e ≡ c)
    volunteered true true n e at h = inr ((bytes_eq-Decides e c).0 at)
    volunteered true false n e at h = inl h
    volunteered false b n e at h = inl h

    left : (b : Bool) (e : List ℕ) → bytes_eq e c ≡ b → cond b None (standing_since past u c) ≡ Some k → (standing_since past u c ≡ Some k) × (bytes_eq e c ≡ true → ⊥)
    left true e at h = absurd (let wrong : ◌≡◌ {A = Option ℕ} None (Some k) = h in cc)
    left false e at h = (h, λ same. no_test (bytes_eq e c) same at)

    of : (d : Said) → said m ≡ d → since_behind m.number d u (holder past u) c (standing_since past u c) ≡ Some k → ((standing_since past u c ≡ Some k) × (IsLeft c d → ⊥)) ⊎ IsDoing c d
    of (Does e (Add queue value)) at h = inl (h, λ no_leave. no_leave)
    of (Does e (Acquire queue)) at h = inl (h, λ no_leave. no_leave)
    of (Does e (Complete queue own)) at h = inl (h, λ no_leave. no_leave)
    of (Does e (Release queue own)) at h = inl (h, λ no_leave. no_leave)
    of (Does e (Volunteer own)) at h = elim (volunteered (bytes_eq own u) (bytes_eq e c) _ e refl h) [
      | inl before ↦ inl (before, λ no_leave. no_leave)
      | inr own ↦ inr own
    ]
    of (Does e (Abandon own)) at h = inl (none (bytes_eq own u && bytes_eq e c) h, λ no_leave. no_leave)
    of (Does e (Finish own)) at h = inl (none (bytes_eq own u && is_text (holder past u) e) h, λ no_leave. no_leave)
    of (Leaves e) at h = inl (left (bytes_eq e c) e refl h)
    of Nothing at h = inl (h, λ no_leave. no_leave)

-- ---- what the messages of entries say

some_is : {X : Type 0} (x y : X) → Some x ≡ Some y → x ≡ y
some_is x y is = cc

-- an id is read back from its text
id_read : (id : List ℕ) → answer (printed (text id)) ≡ Ok (text id)
id_read id = answers_itself 101 (text id) tt (omega arith) (omega arith)

leave_none : {A : Type 0} (kind : Kind) → of_leave {A = A} kind None ≡ None
leave_none kind.Op = refl
leave_none kind.Noop = refl
leave_none kind.Propose = refl
leave_none kind.Reject = refl
leave_none kind.Summarize = refl
leave_none kind.Join = refl
leave_none kind.Leave = refl
leave_none kind.SummaryAck = refl
leave_none kind.SummaryNack = refl

left_said : (l : Ledger) (id : List ℕ) (moment : ℕ) (m : Message) → message l (Leave id moment) ≡ Some m → (left_by m ≡ Some id) × (member_of m ≡ None)
unfolding message unsettled left_by member_of
left_said l id moment m is = rw (sym (some_is _ m is)) (rw (id_read id) (refl, refl))

pub left_leaves : (m : Message) (id : List ℕ) → left_by m ≡ Some id → said m ≡ Leaves id
unfolding said
left_leaves m id is = rw is refl

-- one that isn't a leave
pub not_left : (m : Message) → left_by m ≡ None → said m ≡ done m.client (act_of m)
unfolding said
not_left m is = rw is refl

join_said : (l : Ledger) (id : List ℕ) (scopes : Scopes) (detail : Tree) (moment : ℕ) (m : Message) → message l (Join id scopes detail moment) ≡ Some m → (left_by m ≡ None) × (m.client ≡ None)
unfolding message unsettled left_by
join_said l id scopes detail moment m is = rw (sym (some_is _ m is)) (refl, refl)

submit_said : (l : Ledger) (id : List ℕ) (submission : Submission) (moment : ℕ) (m : Message) → message l (Submit id submission moment) ≡ Some m → ((left_by m ≡ None) × (m.client ≡ Some id)) × (member_of m ≡ None)
unfolding message unsettled left_by member_of
submit_said l id submission moment m is = rw (sym (some_is _ m is)) ((leave_none (kind_of submission.kind), refl), join_none (kind_of submission.kind))
  where
    join_none : (kind : Kind) → of_join {A = Member} kind None ≡ None
    join_none kind.Op = refl
    join_none kind.Noop = refl
    join_none kind.Propose = refl
    join_none kind.Reject = refl
    join_none kind.Summarize = refl
    join_none kind.Join = refl
    join_none kind.Leave = refl
    join_none kind.SummaryAck = refl
    join_none kind.SummaryNack = refl

report_at : (l : Ledger) (raw : Raw) (number moment : ℕ) (answered : Option (Kind × Tree)) (m : Message) → option_map (settled l raw) (option_map (answer_message number moment) answered) ≡ Some m → (left_by m ≡ None) × (m.client ≡ None)
unfolding left_by
report_at l raw number moment None m is = absurd (cc)
report_at l raw number moment (Some answered) m is = rw (sym (some_is _ m is)) (leave_none answered.0, refl)

report_said : (l : Ledger) (summary : ℕ) (found : Bool) (moment : ℕ) (m : Message) → message l (Report summary found moment) ≡ Some m → (left_by m ≡ None) × (m.client ≡ None)
unfolding message unsettled
report_said l summary found moment m is = report_at l (Report summary found moment) (seq l + 1) moment (reported summary (scribe_answer (order l) summary found)) m is

-- nothing is done without a client
pub none_done : (m : Message) → left_by m ≡ None → m.client ≡ None → said m ≡ Nothing
none_done m left none = not_left m left ∙ ap (λ c. done c (act_of m)) none

-- by a client something is done, or nothing
pub some_done : (m : Message) (id : List ℕ) → left_by m ≡ None → m.client ≡ Some id → (said m ≡ Nothing) ⊎ ((act : Act) × (said m ≡ Does id act))
some_done m id left own = of (act_of m) refl
  where
    of : (o : Option Act) → act_of m ≡ o → (said m ≡ Nothing) ⊎ ((act : Act) × (said m ≡ Does id act))
    of None at = inl (not_left m left ∙ ap₂ done own at)
    of (Some act) at = inr (act, not_left m left ∙ ap₂ done own at)

or_right : (a b : Bool) → b ≡ true → (a || b) ≡ true
or_right true b is = refl
or_right false b is = is

-- ---- members

abbrev pub named : List ℕ → List (List ℕ × Member) → Bool
named c pairs = list_any (λ (e : List ℕ × Member). bytes_eq c e.0) pairs

named-append : (c : List ℕ) (xs ys : List (List ℕ × Member)) → named c (xs ++ ys) ≡ (named c xs || named c ys)
named-append c [] ys = refl
named-append c (x ∷ xs) ys = ap (λ b. bytes_eq c x.0 || b) (named-append c xs ys) ∙ assoc (bytes_eq c x.0) (named c xs) (named c ys)
  where
    assoc : (a b d : Bool) → (a || (b || d)) ≡ ((a || b) || d)
    assoc true b d = refl
    assoc false b d = refl

named-reverse : (c : List ℕ) (xs : List (List ℕ × Member)) → named c (reverse xs) ≡ named c xs
named-reverse c [] = refl
named-reverse c (x ∷ xs) =
    ap (named c) (reverse-append (x ∷ []) xs) ∙ named-append c (reverse xs) (x ∷ []) ∙ ap (λ b. b || named c (x ∷ [])) (named-reverse c xs) ∙ swap (named c xs) (bytes_eq c x.0)
  where
    swap : (a b : Bool) → (a || (b || false)) ≡ (b || a)
    swap true true = refl
    swap true false = refl
    swap false true = refl
    swap false false = refl

find_some : (c : List ℕ) (es : List (List ℕ × Member)) → named c es ≡ true → is_some (find byte_order c es) ≡ true
find_some c [] is = absurd (let wrong : false ≡ true = is in cc)
find_some c (e ∷ es) is = of (bytes_eq c e.0) refl (λ h. find_some c es h)
  where
    of : (b : Bool) → bytes_eq c e.0 ≡ b → (named c es ≡ true → is_some (find byte_order c es) ≡ true) → is_some (find byte_order c (e ∷ es)) ≡ true
    of true at again = ap (λ b. is_some (cond b (Some e.1) (find byte_order c es))) (is_eq-slice_cmp c e.0 ∙ at)
    of false at again = ap (λ b. is_some (cond b (Some e.1) (find byte_order c es))) (is_eq-slice_cmp c e.0 ∙ at) ∙ again (sym (ap (λ b. b || named c es) at) ∙ is)

pub present_is_member : (ms : List Message) (c : List ℕ) → named c (present ms) ≡ true → is_some (get (members ms) c) ≡ true
unfolding members
present_is_member ms c is = ap is_some (get-latest (present ms) c) ∙ find_some c (reverse (present ms)) (named-reverse c (present ms) ∙ is)

-- one message more
module _ (m : Message) where
  any-append : {X : Type 0} (p : X → Bool) (xs ys : List X) → list_any p (xs ++ ys) ≡ (list_any p xs || list_any p ys)
  any-append p [] ys = refl
  any-append p (x ∷ xs) ys = ap (λ b. p x || b) (any-append p xs ys) ∙ assoc (p x) (list_any p xs) (list_any p ys)
    where
      assoc : (a b d : Bool) → (a || (b || d)) ≡ ((a || b) || d)
      assoc true b d = refl
      assoc false b d = refl

  chosen : (e : List ℕ × Member) (a b : Bool) → leaves e.0 m ≡ b → cond (a || (b || false)) [] (e ∷ []) ≡ filter (λ (x : List ℕ × Member). not (leaves x.0 m)) (cond a [] (e ∷ []))
  chosen e true b is = refl
  chosen e false true is = sym (ap (λ b. cond (not b) (e ∷ []) []) is)
  chosen e false false is = sym (ap (λ b. cond (not b) (e ∷ []) []) is)

  unless_left-push : (behind : List Message) (o : Option Member) → unless_left (behind ++ m ∷ []) o ≡ filter (λ (x : List ℕ × Member). not (leaves x.0 m)) (unless_left behind o)
  unless_left-push behind None = refl
  unless_left-push behind (Some j) =
      ap (λ b. cond b [] ((j.id, j) ∷ [])) (any-append (leaves j.id) behind (m ∷ [])) ∙ chosen (j.id, j) (list_any (leaves j.id) behind) (leaves j.id m) refl

  pub present-push : (ms : List Message) → present (ms ++ m ∷ []) ≡ filter (λ (x : List ℕ × Member). not (leaves x.0 m)) (present ms) ++ unless_left [] (member_of m)
  unfolding present
  present-push [] = append-nil (unless_left [] (member_of m))
  present-push (n ∷ ms) =
      ap₂ (λ a b. a ++ b) (unless_left-push ms (member_of n)) (present-push ms)
      ∙ sym (append_assoc (filter (λ (x : List ℕ × Member). not (leaves x.0 m)) (unless_left ms (member_of n))) (filter (λ (x : List ℕ × Member). not (leaves x.0 m)) (present ms)) (unless_left [] (member_of m)))
      ∙ ap (λ l. l ++ unless_left [] (member_of m)) (sym (filter-append (λ (x : List ℕ × Member). not (leaves x.0 m)) (unless_left ms (member_of n)) (present ms)))

  named_stays : (c : List ℕ) (es : List (List ℕ × Member)) → leaves c m ≡ false → named c es ≡ true → named c (filter (λ (x : List ℕ × Member). not (leaves x.0 m)) es) ≡ true
  named_stays c [] stays is = is
  named_stays c (e ∷ es) stays is = of (bytes_eq c e.0) refl (λ h. named_stays c es stays h)
    where
      skipped : (b : Bool) → named c (filter (λ (x : List ℕ × Member). not (leaves x.0 m)) es) ≡ true → named c (cond b (e ∷ filter (λ (x : List ℕ × Member). not (leaves x.0 m)) es) (filter (λ (x : List ℕ × Member). not (leaves x.0 m)) es)) ≡ true
      skipped true h = or_right (bytes_eq c e.0) (named c (filter (λ (x : List ℕ × Member). not (leaves x.0 m)) es)) h
      skipped false h = h

      of : (b : Bool) → bytes_eq c e.0 ≡ b → (named c es ≡ true → named c (filter (λ (x : List ℕ × Member). not (leaves x.0 m)) es) ≡ true) → named c (filter (λ (x : List ℕ × Member). not (leaves x.0 m)) (e ∷ es)) ≡ true
      of true at again =
          let here : leaves e.0 m ≡ false = subst (λ w. leaves w m ≡ false) (same_id c e.0 at) stays in
          ap (λ b. named c (cond (not b) (e ∷ filter (λ (x : List ℕ × Member). not (leaves x.0 m)) es) (filter (λ (x : List ℕ × Member). not (leaves x.0 m)) es))) here
          ∙ or_left (bytes_eq c e.0) (named c (filter (λ (x : List ℕ × Member). not (leaves x.0 m)) es)) at
      of false at again = skipped (not (leaves e.0 m)) (again (sym (ap (λ b. b || named c es) at) ∙ is))

  -- who is present and doesn't leave is present still
  pub present_still : (ms : List Message) (c : List ℕ) → leaves c m ≡ false → named c (present ms) ≡ true → named c (present (ms ++ m ∷ [])) ≡ true
  present_still ms c stays is =
      ap (named c) (present-push ms) ∙ named-append c (filter (λ (x : List ℕ × Member). not (leaves x.0 m)) (present ms)) (unless_left [] (member_of m))
      ∙ or_left (named c (filter (λ (x : List ℕ × Member). not (leaves x.0 m)) (present ms))) (named c (unless_left [] (member_of m))) (named_stays c (present ms) stays is)

  -- who joins is present
  pub present_now : (ms : List Message) (j : Member) → member_of m ≡ Some j → named j.id (present (ms ++ m ∷ [])) ≡ true
  present_now ms j is =
      ap (named j.id) (present-push ms) ∙ named-append j.id (filter (λ (x : List ℕ × Member). not (leaves x.0 m)) (present ms)) (unless_left [] (member_of m))
      ∙ or_right (named j.id (filter (λ (x : List ℕ × Member). not (leaves x.0 m)) (present ms))) (named j.id (unless_left [] (member_of m)))
      (ap (λ o. named j.id (unless_left [] o)) is ∙ or_left (bytes_eq j.id j.id) false (own_id j.id))

-- a client whose leave it isn't
not_leaving : (m : Message) (c : List ℕ) → left_by m ≡ None → leaves c m ≡ false
not_leaving m c is = ap (λ o. list_any (bytes_eq c) (option_to_list o)) is

other_leaving : (m : Message) (id c : List ℕ) → left_by m ≡ Some id → bytes_eq c id ≡ false → leaves c m ≡ false
other_leaving m id c is other = ap (λ o. list_any (bytes_eq c) (option_to_list o)) is ∙ ap (λ b. b || false) other

-- ---- the member of a join

join_read : (id : List ℕ) (detail : Tree) → IsReadable id detail → answer (printed (join_data id detail)) ≡ Ok (join_data id detail)
unfolding name_of
join_read id detail told = answers_itself 101 (join_data id detail) ((refl, tt), (tt, (tt, (told.canonical, tt)))) (omega (arith, told.shallow)) (omega (arith, told.shallow))

join_member : (l : Ledger) (id : List ℕ) (scopes : Scopes) (detail : Tree) (moment : ℕ) (m : Message) → IsReadable id detail → message l (Join id scopes detail moment) ≡ Some m
    → member_of m ≡ Some (record { id = id; detail = detail; number = m.number })
unfolding message unsettled member_of name_of
join_member l id scopes detail moment m told is = rw (sym (some_is _ m is)) (rw (join_read id detail told, told.name) refl)

-- ---- along a legal ledger

pub record Told (l : Ledger) : Type 0 where
  pub numbered : IsNumbered (past_of (order l))
  pub is_present : (c : List ℕ) → is_some (client l c) ≡ true → named c (present (order l)) ≡ true
  pub holds : (c : List ℕ) (i : ℕ) → is_held_by c (status (past_of (order l)) i) ≡ true → is_some (client l c) ≡ true
  pub stands : (u c : List ℕ) (k : ℕ) → standing_since (past_of (order l)) u c ≡ Some k → is_some (client l c) ≡ true

seq-is : (l : Ledger) → seq l ≡ length (order l)
unfolding seq
seq-is l = refl

past-push : (ms : List Message) (m : Message) → past_of (ms ++ m ∷ []) ≡ m ∷ past_of ms
past-push ms m = reverse-append ms (m ∷ [])

-- no message, and the same clients
quiet_entry : (l : Ledger) (entry : Entry) → messages_of entry.1 ≡ [] → ((c : List ℕ) → is_some (client (l ++ entry ∷ []) c) ≡ is_some (client l c)) → Told l → Told (l ++ entry ∷ [])
quiet_entry l entry none same told =
    let order_is : order (l ++ entry ∷ []) ≡ order l = order-push l entry ∙ ap (λ ms. order l ++ ms) none ∙ append-nil (order l) in
    record {
      numbered = subst (λ ms. IsNumbered (past_of ms)) (sym order_is) told.numbered;
      is_present = λ c some. subst (λ ms. named c (present ms) ≡ true) (sym order_is) (told.is_present c (sym (same c) ∙ some));
      holds = λ c i h. same c ∙ told.holds c i (subst (λ ms. is_held_by c (status (past_of ms) i) ≡ true) order_is h);
      stands = λ u c k h. same c ∙ told.stands u c k (subst (λ ms. standing_since (past_of ms) u c ≡ Some k) order_is h);
    }

-- one message more: who is joined behind it was joined before and doesn't leave with it, or joins; and who does something with it is joined
record Spoken (l : Ledger) (entry : Entry) (m : Message) (d : Said) : Type 0 where
  said_is : said m ≡ d
  number_is : m.number ≡ seq l + 1
  present_too : (c : List ℕ) → is_some (client (l ++ entry ∷ []) c) ≡ true → (named c (present (order l ++ m ∷ [])) ≡ true)
  stays_joined : (c : List ℕ) → is_some (client l c) ≡ true → (IsLeft c d → ⊥) → is_some (client (l ++ entry ∷ []) c) ≡ true
  joined : (c : List ℕ) → IsDoing c d → is_some (client (l ++ entry ∷ []) c) ≡ true

spoken_entry : (l : Ledger) (entry : Entry) (m : Message) (d : Said) → messages_of entry.1 ≡ m ∷ [] → Spoken l entry m d → Told l → Told (l ++ entry ∷ [])
spoken_entry l entry m d one spoken told =
    let order_is : order (l ++ entry ∷ []) ≡ order l ++ m ∷ [] = order-push l entry ∙ ap (λ ms. order l ++ ms) one in
    let past_is : past_of (order (l ++ entry ∷ [])) ≡ m ∷ past_of (order l) = ap past_of order_is ∙ past-push (order l) m in
    let number : m.number ≡ length (past_of (order l)) + 1 = spoken.number_is ∙ ap (λ n. n + 1) (seq-is l ∙ sym (length-reverse (order l))) in
    record {
      numbered = subst IsNumbered (sym past_is) (number, told.numbered);
      is_present = λ c some. subst (λ ms. named c (present ms) ≡ true) (sym order_is) (spoken.present_too c some);
      holds = λ c i h. elim (held_from m (past_of (order l)) d spoken.said_is c i (subst (λ p. is_held_by c (status p i) ≡ true) past_is h)) [
        | inl before ↦ spoken.stays_joined c (told.holds c i before.0) before.1
        | inr doing ↦ spoken.joined c doing
      ];
      stands = λ u c k h. elim (stood_from m (past_of (order l)) d spoken.said_is u c k (subst (λ p. standing_since p u c ≡ Some k) past_is h)) [
        | inl before ↦ spoken.stays_joined c (told.stands u c k before.0) before.1
        | inr doing ↦ spoken.joined c doing
      ];
    }

mapped : {X Y : Type 0} (f : X → Y) (o : Option X) → is_some (option_map f o) ≡ is_some o
mapped f None = refl
mapped f (Some x) = refl

either : (b : Bool) (f : Client → Client) (o : Option Client) → is_some (cond b (option_map f o) o) ≡ is_some o
either true f o = mapped f o
either false f o = refl

not_there : (o : Option Client) (b : Bool) → is_some (cond b None o) ≡ true → (b ≡ false) × (is_some o ≡ true)
not_there o true h = absurd (let wrong : false ≡ true = h in cc)
not_there o false h = (refl, h)

module _ (l : Ledger) (told : Told l) where
  -- a submission changes nobody's joining
  submit_same : (id : List ℕ) (submission : Submission) (moment : ℕ) (v : Verdict) (c : List ℕ) → is_some (client (l ++ (Submit id submission moment, v) ∷ []) c) ≡ is_some (client l c)
  submit_same id submission moment v c = ap is_some (client-push l (Submit id submission moment, v) c) ∙ either (bytes_eq id c) (λ x. client_heard moment (client_submitting (seq l) submission v x)) (client l c)

  report_same : (summary : ℕ) (found : Bool) (moment : ℕ) (v : Verdict) (c : List ℕ) → is_some (client (l ++ (Report summary found moment, v) ∷ []) c) ≡ is_some (client l c)
  report_same summary found moment v c = ap is_some (client-push l (Report summary found moment, v) c)

  join_unsequenced : (id : List ℕ) (scopes : Scopes) (detail : Tree) (moment : ℕ) (v : Verdict) → is_sequenced v ≡ false → (c : List ℕ) → is_some (client (l ++ (Join id scopes detail moment, v) ∷ []) c) ≡ is_some (client l c)
  join_unsequenced id scopes detail moment v not c =
      ap is_some (client-push l (Join id scopes detail moment, v) c)
      ∙ ap (λ b. is_some (cond (bytes_eq id c) (cond b (Some (record { last = 0; reference = minimum l; nacked = false; scopes = scopes; heard = moment })) (option_map (client_heard moment) (client l c))) (client l c))) not
      ∙ either (bytes_eq id c) (client_heard moment) (client l c)

  leave_unsequenced : (id : List ℕ) (moment : ℕ) (v : Verdict) → is_sequenced v ≡ false → (c : List ℕ) → is_some (client (l ++ (Leave id moment, v) ∷ []) c) ≡ is_some (client l c)
  leave_unsequenced id moment v not c =
      ap is_some (client-push l (Leave id moment, v) c)
      ∙ ap (λ b. is_some (cond (bytes_eq id c) (cond b None (option_map (client_heard moment) (client l c))) (client l c))) not
      ∙ either (bytes_eq id c) (client_heard moment) (client l c)

  unsequenced : (raw : Raw) (v : Verdict) → is_sequenced v ≡ false → (c : List ℕ) → is_some (client (l ++ (raw, v) ∷ []) c) ≡ is_some (client l c)
  unsequenced (Join id scopes detail moment) v not c = join_unsequenced id scopes detail moment v not c
  unsequenced (Leave id moment) v not c = leave_unsequenced id moment v not c
  unsequenced (Submit id submission moment) v not c = submit_same id submission moment v c
  unsequenced (Report summary found moment) v not c = report_same summary found moment v c

  join_told : (id : List ℕ) (scopes : Scopes) (detail : Tree) (moment : ℕ) (m : Message) → IsReadable id detail → message l (Join id scopes detail moment) ≡ Some m → Told (l ++ (Join id scopes detail moment, Sequenced m) ∷ [])
  join_told id scopes detail moment m readable is =
      let says = join_said l id scopes detail moment m is in
      let now : (c : List ℕ) → client (l ++ (Join id scopes detail moment, Sequenced m) ∷ []) c ≡ cond (bytes_eq id c) (Some (record { last = 0; reference = minimum l; nacked = false; scopes = scopes; heard = moment })) (client l c) =
      λ c. client-push l (Join id scopes detail moment, Sequenced m) c in
      spoken_entry l (Join id scopes detail moment, Sequenced m) m Nothing refl (record {
        said_is = none_done m says.0 says.1;
        number_is = message-number l (Join id scopes detail moment) m is;
        present_too = λ c some. here c (bytes_eq id c) refl (sym (ap is_some (now c)) ∙ some);
        stays_joined = λ c some no_leave. ap is_some (now c) ∙ kept c (bytes_eq id c) some;
        joined = λ c no_one. absurd no_one;
      }) told
    where
      its : Member
      its = record { id = id; detail = detail; number = m.number }

      here : (c : List ℕ) (b : Bool) → bytes_eq id c ≡ b → is_some (cond b (Some (record { last = 0; reference = minimum l; nacked = false; scopes = scopes; heard = moment })) (client l c)) ≡ true → named c (present (order l ++ m ∷ [])) ≡ true
      here c true same some = subst (λ w. named w (present (order l ++ m ∷ [])) ≡ true) (same_id id c same) (present_now m (order l) (record { id = id; detail = detail; number = m.number }) (join_member l id scopes detail moment m readable is))
      here c false other some = present_still m (order l) c (not_leaving m c (join_said l id scopes detail moment m is).0) (told.is_present c some)

      kept : (c : List ℕ) (b : Bool) → is_some (client l c) ≡ true → is_some (cond b (Some (record { last = 0; reference = minimum l; nacked = false; scopes = scopes; heard = moment })) (client l c)) ≡ true
      kept c true some = refl
      kept c false some = some

  leave_told : (id : List ℕ) (moment : ℕ) (m : Message) → message l (Leave id moment) ≡ Some m → Told (l ++ (Leave id moment, Sequenced m) ∷ [])
  leave_told id moment m is =
      let says = left_said l id moment m is in
      let now : (c : List ℕ) → client (l ++ (Leave id moment, Sequenced m) ∷ []) c ≡ cond (bytes_eq id c) None (client l c) = λ c. client-push l (Leave id moment, Sequenced m) c in
      spoken_entry l (Leave id moment, Sequenced m) m (Leaves id) refl (record {
        said_is = left_leaves m id says.0;
        number_is = message-number l (Leave id moment) m is;
        present_too = λ c some.
            let parts = not_there (client l c) (bytes_eq id c) (sym (ap is_some (now c)) ∙ some) in
            present_still m (order l) c (other_leaving m id c says.0 (swapped c id parts.0)) (told.is_present c parts.1);
        stays_joined = λ c some no_leave. ap is_some (now c ∙ ap (λ b. cond b None (client l c)) (false_from_ne_true (bytes_eq id c) no_leave)) ∙ some;
        joined = λ c no_one. absurd no_one;
      }) told
    where
      swapped : (c id : List ℕ) → bytes_eq id c ≡ false → bytes_eq c id ≡ false
      swapped c id other = false_from_ne_true (bytes_eq c id) (λ same. no_test (bytes_eq id c) (subst (λ w. bytes_eq w c ≡ true) (same_id c id same) (own_id c)) other)

  submit_told : (id : List ℕ) (submission : Submission) (moment : ℕ) (m : Message) → verdict l (Submit id submission moment) ≡ Sequenced m → Told (l ++ (Submit id submission moment, Sequenced m) ∷ [])
  submit_told id submission moment m sequenced =
      let is = verdict-is_message l (Submit id submission moment) m sequenced in
      let says = submit_said l id submission moment m is in
      let joined_before : is_some (client l id) ≡ true = ap is_some (client-joined l id (sequenced-taken l id submission moment m sequenced).joined) in
      elim (some_done m id says.0.0 says.0.1) [
        | inl nothing ↦ spoken_entry l (Submit id submission moment, Sequenced m) m Nothing refl (record {
          said_is = nothing;
          number_is = message-number l (Submit id submission moment) m is;
          present_too = λ c some. present_still m (order l) c (not_leaving m c says.0.0) (told.is_present c (sym (submit_same id submission moment (Sequenced m) c) ∙ some));
          stays_joined = λ c some no_leave. submit_same id submission moment (Sequenced m) c ∙ some;
          joined = λ c no_one. absurd no_one;
        }) told
        | inr does ↦ spoken_entry l (Submit id submission moment, Sequenced m) m (Does id does.0) refl (record {
          said_is = does.1;
          number_is = message-number l (Submit id submission moment) m is;
          present_too = λ c some. present_still m (order l) c (not_leaving m c says.0.0) (told.is_present c (sym (submit_same id submission moment (Sequenced m) c) ∙ some));
          stays_joined = λ c some no_leave. submit_same id submission moment (Sequenced m) c ∙ some;
          joined = λ c own. submit_same id submission moment (Sequenced m) c ∙ subst (λ w. is_some (client l w) ≡ true) own joined_before;
        }) told
      ]

  report_told : (summary : ℕ) (found : Bool) (moment : ℕ) (m : Message) → message l (Report summary found moment) ≡ Some m → Told (l ++ (Report summary found moment, Sequenced m) ∷ [])
  report_told summary found moment m is =
      let says = report_said l summary found moment m is in
      spoken_entry l (Report summary found moment, Sequenced m) m Nothing refl (record {
        said_is = none_done m says.0 says.1;
        number_is = message-number l (Report summary found moment) m is;
        present_too = λ c some. present_still m (order l) c (not_leaving m c says.0) (told.is_present c (sym (report_same summary found moment (Sequenced m) c) ∙ some));
        stays_joined = λ c some no_leave. report_same summary found moment (Sequenced m) c ∙ some;
        joined = λ c no_one. absurd no_one;
      }) told

  sequenced_told : (raw : Raw) (m : Message) → IsToldSo (raw, Sequenced m) → verdict l raw ≡ Sequenced m → Told (l ++ (raw, Sequenced m) ∷ [])
  sequenced_told (Join id scopes detail moment) m so is = join_told id scopes detail moment m so (verdict-is_message l (Join id scopes detail moment) m is)
  sequenced_told (Leave id moment) m so is = leave_told id moment m (verdict-is_message l (Leave id moment) m is)
  sequenced_told (Submit id submission moment) m so is = submit_told id submission moment m is
  sequenced_told (Report summary found moment) m so is = report_told summary found moment m (verdict-is_message l (Report summary found moment) m is)

  entry_told : (raw : Raw) (v : Verdict) → IsToldSo (raw, v) → v ≡ verdict l raw → Told (l ++ (raw, v) ∷ [])
  entry_told raw (Sequenced m) so is = sequenced_told raw m so (sym is)
  entry_told raw (Nacked nack) so is = quiet_entry l (raw, Nacked nack) refl (unsequenced raw (Nacked nack) refl) told
  entry_told raw Dropped so is = quiet_entry l (raw, Dropped) refl (unsequenced raw Dropped refl) told
  entry_told raw Absorbed so is = quiet_entry l (raw, Absorbed) refl (unsequenced raw Absorbed refl) told

-- ---- where an item is

-- what has no status was never added
none_added_so : (past : Past) (i : ℕ) → status past i ≡ NoItem → added past i ≡ None
unfolding added status
none_added_so [] i is = refl
none_added_so (m ∷ past) i is = of (λ h. none_added_so past i h) (said m) refl
  where
    Before : Type 0
    Before = status past i ≡ NoItem → added past i ≡ None

    step : (d : Said) → said m ≡ d → status_behind m.number d (λ queue. is_of past queue i) (λ queue. first (free past queue)) i (status past i) ≡ NoItem
    step d at = sym (status-step m past d at i) ∙ is

    kept : (d : Said) → said m ≡ d → adds d ≡ None → added past i ≡ None → added (m ∷ past) i ≡ None
    kept d at none before = added-kept m past d at none i ∙ before

    freed : (b : Bool) → cond b (Free m.number) (status past i) ≡ NoItem → (b ≡ false) × (status past i ≡ NoItem)
    freed true h = absurd (let wrong : Free m.number ≡ NoItem = h in cc)
    freed false h = (refl, h)

    held : (b : Bool) (e : List ℕ) → cond b (Held e) (status past i) ≡ NoItem → status past i ≡ NoItem
    held true e h = absurd (let wrong : Held e ≡ NoItem = h in cc)
    held false e h = h

    gone : (b : Bool) → cond b Gone (status past i) ≡ NoItem → status past i ≡ NoItem
    gone true h = absurd (let wrong : Gone ≡ NoItem = h in cc)
    gone false h = h

    of : Before → (d : Said) → said m ≡ d → added (m ∷ past) i ≡ None
    of before (Does e (Add queue value)) at =
        let parts = freed (m.number == i) (step _ at) in
        added-step m past _ at i ∙ ap (λ b. cond b (Some (record { queue = queue; value = value })) (added past i)) parts.0 ∙ before parts.1
    of before (Does e (Acquire queue)) at = kept _ at refl (before (held (is_number (first (free past queue)) i) e (step _ at)))
    of before (Does e (Complete queue own)) at = kept _ at refl (before (gone ((own == i) && (is_of past queue i && is_held_by e (status past i))) (step _ at)))
    of before (Does e (Release queue own)) at = kept _ at refl (before (freed ((own == i) && (is_of past queue i && is_held_by e (status past i))) (step _ at)).1)
    of before (Does e (Volunteer task)) at = kept _ at refl (before (step _ at))
    of before (Does e (Abandon task)) at = kept _ at refl (before (step _ at))
    of before (Does e (Finish task)) at = kept _ at refl (before (step _ at))
    of before (Leaves e) at = kept _ at refl (before (freed (is_held_by e (status past i)) (step _ at)).1)
    of before Nothing at = kept _ at refl (before (step _ at))

-- an item is free since the number of one of the messages
free_number : (past : Past) (i s : ℕ) → status past i ≡ Free s → mem s (numbers past) ≡ true
unfolding status numbers
free_number [] i s is = absurd (let wrong : NoItem ≡ Free s = is in cc)
free_number (m ∷ past) i s is = mem-append s (numbers past) (m.number ∷ []) ∙ of (λ h. free_number past i s h) (said m) refl
  where
    Before : Type 0
    Before = status past i ≡ Free s → mem s (numbers past) ≡ true

    step : (d : Said) → said m ≡ d → status_behind m.number d (λ queue. is_of past queue i) (λ queue. first (free past queue)) i (status past i) ≡ Free s
    step d at = sym (status-step m past d at i) ∙ is

    old : Before → status past i ≡ Free s → (mem s (numbers past) || ((m.number == s) || false)) ≡ true
    old before h = or_left (mem s (numbers past)) ((m.number == s) || false) (before h)

    own : Free m.number ≡ Free s → (mem s (numbers past) || ((m.number == s) || false)) ≡ true
    own h = let same : m.number ≡ s = cc in or_right (mem s (numbers past)) ((m.number == s) || false) (or_left (m.number == s) false (eq-eqb m.number s same))

    freed : Before → (b : Bool) → cond b (Free m.number) (status past i) ≡ Free s → (mem s (numbers past) || ((m.number == s) || false)) ≡ true
    freed before true h = own h
    freed before false h = old before h

    held : Before → (b : Bool) (e : List ℕ) → cond b (Held e) (status past i) ≡ Free s → (mem s (numbers past) || ((m.number == s) || false)) ≡ true
    held before true e h = absurd (let wrong : Held e ≡ Free s = h in cc)
    held before false e h = old before h

    gone : Before → (b : Bool) → cond b Gone (status past i) ≡ Free s → (mem s (numbers past) || ((m.number == s) || false)) ≡ true
    gone before true h = absurd (let wrong : Gone ≡ Free s = h in cc)
    gone before false h = old before h

    of : Before → (d : Said) → said m ≡ d → (mem s (numbers past) || ((m.number == s) || false)) ≡ true
    of before (Does e (Add queue value)) at = freed before (m.number == i) (step _ at)
    of before (Does e (Acquire queue)) at = held before (is_number (first (free past queue)) i) e (step _ at)
    of before (Does e (Complete queue its)) at = gone before ((its == i) && (is_of past queue i && is_held_by e (status past i))) (step _ at)
    of before (Does e (Release queue its)) at = freed before ((its == i) && (is_of past queue i && is_held_by e (status past i))) (step _ at)
    of before (Does e (Volunteer task)) at = old before (step _ at)
    of before (Does e (Abandon task)) at = old before (step _ at)
    of before (Does e (Finish task)) at = old before (step _ at)
    of before (Leaves e) at = freed before (is_held_by e (status past i)) (step _ at)
    of before Nothing at = old before (step _ at)

mem_filter_so : (p : ℕ → Bool) (x : ℕ) (xs : List ℕ) → p x ≡ true → mem x xs ≡ true → mem x (filter p xs) ≡ true
mem_filter_so p x xs own among = mem-filter p xs x ∙ ap₂ (λ a b. a && b) among own

mem_turns : (p : ℕ → ℕ → Bool) (s x : ℕ) (ns xs : List ℕ) → p s x ≡ true → mem x xs ≡ true → mem s ns ≡ true → mem x (turns p ns xs) ≡ true
mem_turns p s x [] xs own among is = absurd (let wrong : false ≡ true = is in cc)
mem_turns p s x (n ∷ ns) xs own among is = mem-append x (filter (p n) xs) (turns p ns xs) ∙ of (n == s) refl (λ h. mem_turns p s x ns xs own among h)
  where
    of : (b : Bool) → (n == s) ≡ b → (mem s ns ≡ true → mem x (turns p ns xs) ≡ true) → (mem x (filter (p n) xs) || mem x (turns p ns xs)) ≡ true
    of true at again = or_left (mem x (filter (p n) xs)) (mem x (turns p ns xs)) (mem_filter_so (p n) x xs (subst (λ k. p k x ≡ true) (sym (eqb-true n s at)) own) among)
    of false at again = or_right (mem x (filter (p n) xs)) (mem x (turns p ns xs)) (again (sym (ap (λ b. b || mem s ns) at) ∙ is))

mem_all : (P : ℕ → Type 0) (x : ℕ) (xs : List ℕ) → AllByRecursion P xs → mem x xs ≡ true → P x
mem_all P x [] all is = absurd (let wrong : false ≡ true = is in cc)
mem_all P x (y ∷ ys) all is = of (y == x) refl (λ h. mem_all P x ys all.1 h)
  where
    of : (b : Bool) → (y == x) ≡ b → (mem x ys ≡ true → P x) → P x
    of true at again = subst P (eqb-true y x at) all.0
    of false at again = again (sym (ap (λ b. b || mem x ys) at) ∙ is)

-- an item that isn't free stands in no line
in_no_line : (past : Past) (i : ℕ) → ((s : ℕ) → is_free_since s (status past i) ≡ false) → (q : List ℕ) → mem i (free past q) ≡ false
in_no_line past i not q = false_from_ne_true (mem i (free past q)) (λ is. let its = mem_all (IsFreeIn past q) i (free past q) (all_free past q) is in no_test (is_free_since its.since (status past i)) its.is_free (not its.since))

-- one that is free stands in the line of its queue
in_its_line : (past : Past) (q : List ℕ) (i s : ℕ) → is_of past q i ≡ true → status past i ≡ Free s → mem i (free past q) ≡ true
in_its_line past q i s own is =
    ap (mem i) (free-turns past q)
    ∙ mem_turns (test past q) s i (numbers past) (items past) (ap₂ (λ a b. a && b) own (ap (is_free_since s) is ∙ self s)) (of_mem past q i own) (free_number past i s is)

value-is : (past : Past) (i : ℕ) → value past i ≡ option_map (λ (it : Item). it.value) (live past i)
unfolding value
value-is past i = refl

-- the value of an item that is free or held
valued_so : (past : Past) (i : ℕ) → is_there (status past i) ≡ true → is_some (added past i) ≡ true → is_some (value past i) ≡ true
valued_so past i there some = ap is_some (value-is past i ∙ ap (λ (o : Option Item). option_map (λ (it : Item). it.value) o) (live-is past i ∙ ap (λ b. cond b (added past i) None) there)) ∙ of (added past i) some
  where
    of : (o : Option Item) → is_some o ≡ true → is_some (option_map (λ (it : Item). it.value) o) ≡ true
    of None h = h
    of (Some it) h = refl

no_value_so : (past : Past) (i : ℕ) → is_there (status past i) ≡ false → value past i ≡ None
no_value_so past i gone = value-is past i ∙ ap (λ (o : Option Item). option_map (λ (it : Item). it.value) o) (live-is past i ∙ ap (λ b. cond b (added past i) None) gone)

queue_of_it : (past : Past) (i : ℕ) → is_some (added past i) ≡ true → (q : List ℕ) × (is_of past q i ≡ true)
queue_of_it past i some = of (added past i) refl some
  where
    of : (o : Option Item) → added past i ≡ o → is_some o ≡ true → (q : List ℕ) × (is_of past q i ≡ true)
    of None at h = absurd (let wrong : false ≡ true = h in cc)
    of (Some it) at h = (it.queue, ap (λ (o : Option Item). is_text (option_map (λ (x : Item). x.queue) o) it.queue) at ∙ own_id it.queue)

member_so : (l : Ledger) → Told l → (c : List ℕ) → is_some (client l c) ≡ true → IsMember (order l) c
unfolding quorum_of
member_so l told c some = present_is_member (order l) c (told.is_present c some)

-- ---- behind the whole order

place_of : (l : Ledger) → Told l → (i : ℕ) → list_any (λ j. j == i) (items (past_of (order l))) ≡ true → IsInOnePlace (order l) i
place_of l told i among = of (status (past_of (order l)) i) refl
  where
    added_so : is_some (added (past_of (order l)) i) ≡ true
    added_so = sym (mem-items (past_of (order l)) i) ∙ among

    of : (st : Status) → status (past_of (order l)) i ≡ st → IsInOnePlace (order l) i
    of NoItem at = absurd (no_test (is_some (added (past_of (order l)) i)) added_so (ap is_some (none_added_so (past_of (order l)) i at)))
    of (Free s) at =
        let queue = queue_of_it (past_of (order l)) i added_so in
        inl (record {
          queue = queue.0;
          its_queue = queue.1;
          in_line = in_its_line (past_of (order l)) queue.0 i s queue.1 at;
          no_holder = holder_of-is (past_of (order l)) i ∙ ap holder_in at;
          valued = valued_so (past_of (order l)) i (ap is_there at) added_so;
        })
    of (Held c) at =
        inr (inl (record {
          client = c;
          holds = holder_of-is (past_of (order l)) i ∙ ap holder_in at;
          member = member_so l told c (told.holds c i (ap (is_held_by c) at ∙ own_id c));
          in_no_line = in_no_line (past_of (order l)) i (λ s. ap (is_free_since s) at);
          valued = valued_so (past_of (order l)) i (ap is_there at) added_so;
        }))
    of Gone at =
        inr (inr (record {
          no_holder = holder_of-is (past_of (order l)) i ∙ ap holder_in at;
          in_no_line = in_no_line (past_of (order l)) i (λ s. ap (is_free_since s) at);
          no_value = no_value_so (past_of (order l)) i (ap is_there at);
        }))

holder_stands : (past : Past) (u c : List ℕ) → holder past u ≡ Some c → (k : ℕ) × (standing_since past u c ≡ Some k)
unfolding holder candidates
holder_stands past u c is = of (standing past u) (standing_stand past u) is
  where
    of : (vs : List Volunteering) → AllByRecursion (λ (v : Volunteering). standing_since past u v.client ≡ Some v.number) vs → first (clients vs) ≡ Some c → (k : ℕ) × (standing_since past u c ≡ Some k)
    of [] all h = absurd (let wrong : ◌≡◌ {A = Option (List ℕ)} None (Some c) = h in cc)
    of (v ∷ vs) all h = (v.number, subst (λ w. standing_since past u w ≡ Some v.number) (some_is v.client c h) all.0)

behind_all : (l : Ledger) → Told l → HoldsBehind (order l)
behind_all l told = record {
  items_in_place = place_of l told;
  holder_is_member = λ u c is. let since = holder_stands (past_of (order l)) u c is in member_so l told c (told.stands u c since.0 since.1);
}

-- ---- behind each message

take_none : {X : Type 0} (n : ℕ) → ◌≡◌ {A = List X} (take n []) []
take_none zero = refl
take_none (suc n) = refl

cut : {X : Type 0} (n : ℕ) (xs : List X) (x : X) → (take n (xs ++ x ∷ []) ≡ take n xs) ⊎ (take n (xs ++ x ∷ []) ≡ xs ++ x ∷ [])
cut zero xs x = inl refl
cut (suc n) [] x = inr (ap (λ l. x ∷ l) (take_none n))
cut (suc n) (y ∷ ys) x = elim (cut n ys x) [
  | inl short ↦ inl (ap (λ l. y ∷ l) short)
  | inr whole ↦ inr (ap (λ l. y ∷ l) whole)
]

-- what holds behind each message of an order holds behind each of one with at most one message more
each_more : (ms more : List Message) → length more ≤ 1 → ((n : ℕ) → HoldsBehind (take n ms)) → HoldsBehind (ms ++ more) → (n : ℕ) → HoldsBehind (take n (ms ++ more))
each_more ms [] few before now n = subst (λ l. HoldsBehind (take n l)) (sym (append-nil ms)) (before n)
each_more ms (m ∷ []) few before now n = elim (cut n ms m) [
  | inl short ↦ subst HoldsBehind (sym short) (before n)
  | inr whole ↦ subst HoldsBehind (sym whole) now
]
each_more ms (m ∷ k ∷ more) few before now n = absurd (omega (arith, few))

few_messages : (v : Verdict) → length (messages_of v) ≤ 1
few_messages (Sequenced m) = omega arith
few_messages (Nacked nack) = omega arith
few_messages Dropped = omega arith
few_messages Absorbed = omega arith

told_prefix : (l : Ledger) (entry : Entry) → AllByRecursion IsToldSo (l ++ entry ∷ []) → AllByRecursion IsToldSo l × IsToldSo entry
told_prefix [] entry all = (tt, all.0)
told_prefix (e ∷ l) entry all = let rest = told_prefix l entry all.1 in ((all.0, rest.0), rest.1)

pub record Each (l : Ledger) : Type 0 where
  pub told : Told l
  pub each : (n : ℕ) → HoldsBehind (take n (order l))

begun : Told []
unfolding order numbers items added status standing_since client entries.client entries.membership rule.past_of
begun = record { numbered = tt; is_present = λ c some. absurd (let wrong : false ≡ true = some in cc); holds = λ c i h. absurd (let wrong : false ≡ true = h in cc); stands = λ u c k h. absurd (let wrong : ◌≡◌ {A = Option ℕ} None (Some k) = h in cc) }

nothing_in_order : order [] ≡ []
unfolding order
nothing_in_order = refl

pub one_holder_at_a_time : OneHolderAtATime
one_holder_at_a_time l legal all = (legal-induction (λ k. AllByRecursion IsToldSo k → Each k) begin step l legal all).each
  where
    begin : AllByRecursion IsToldSo [] → Each []
    begin all = record { told = begun; each = λ n. subst HoldsBehind (sym (ap (take n) nothing_in_order ∙ take_none n ∙ sym nothing_in_order)) (behind_all [] begun) }

    step : (k : Ledger) (entry : Entry) → IsLegal k → (AllByRecursion IsToldSo k → Each k) → entry.1 ≡ verdict k entry.0 → AllByRecursion IsToldSo (k ++ entry ∷ []) → Each (k ++ entry ∷ [])
    step k entry legal before is all =
        let parts = told_prefix k entry all in
        let old = before parts.0 in
        let now : Told (k ++ entry ∷ []) = entry_told k old.told entry.0 entry.1 parts.1 is in
        record {
          told = now;
          each = λ n. subst (λ ms. HoldsBehind (take n ms)) (sym (order-push k entry))
              (each_more (order k) (messages_of entry.1) (few_messages entry.1) old.each (subst HoldsBehind (order-push k entry) (behind_all (k ++ entry ∷ []) now)) n);
        }
