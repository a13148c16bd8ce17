-- What an entry says of a client, and that entries of others leave an outbox beside the ledger.
use Rattle.std.proofs.Common.{◌≡◌, ◌⊎◌, inl, inr, ℕ, ◌+◌, ◌≤◌, Bool, true, false, cond, not, ◌&&◌, ◌||◌, if◌then◌else◌, List, [], ◌∷◌, ◌++◌, length, drop, Option, Some, None, is_some, option_map, bytes_eq, refl, sym, ap, subst, ◌∙◌, arith, append_assoc, append-nil}
use Rattle.std.specs.Prelude.{All}
use Rattle.std.specs.List.{list_any}
use Rattle.std.proofs.lemmas.Bool.{false_from_ne_true}
use Rattle.std.proofs.lemmas.List.{drop-append-le}
use Rattle.std.proofs.lemmas.List.Elements.{All-head, All-tail}
use Rattle.std.proofs.lemmas.List.Sums.{sum_by-append, sum_by-cons}
use Rattle.fluid_json.specs.Tree.{Tree, text}
use Rattle.fluid_json.specs.Printed.{printed}
use Rattle.fluid_types.specs.Ledger.{Ledger, messages_of, order, seq}
use Rattle.fluid_types.specs.declared.entries.Raw.{Raw}
use Rattle.fluid_types.specs.declared.entries.Raw.TheVariants.{Join, Leave, Submit, Report}
use Rattle.fluid_types.specs.declared.entries.Scopes.{Scopes}
use Rattle.fluid_types.specs.declared.entries.Offered.{Offered}
use Rattle.fluid_types.specs.declared.entries.Offered.TheVariants as offered
use Rattle.fluid_types.specs.declared.entries.Submission.{Submission}
use Rattle.fluid_types.specs.declared.messages.Kind.{Kind}
use Rattle.fluid_types.specs.declared.messages.Kind.TheVariants as kind
use Rattle.fluid_types.specs.declared.messages.Message.{Message}
use Rattle.fluid_types.specs.declared.nacks.Nack.{Nack}
use Rattle.fluid_types.specs.declared.verdicts.Verdict.{Verdict}
use Rattle.fluid_types.specs.declared.verdicts.Verdict.TheVariants.{Sequenced, Nacked, Dropped, Absorbed}
use Rattle.fluid_types.specs.Quorum.{of_leave}
use Rattle.fluid_types.proofs.Ledgers.{order-push, seq-push}
use Rattle.fluid_rules.specs.Past.{Entry, Client, client_behind, client_heard, client_submitting}
use Rattle.fluid_rules.specs.Scribe.{answer, reported}
use Rattle.fluid_rules.specs.Rules.{IsLegal, verdict, message, unsettled, settled, answer_message, kind_of, client, is_joined, minimum}
use Rattle.fluid_rules.proofs.Clients.{client-stranger}
use Rattle.fluid_rules.proofs.Ids.{same_id, own_id}
use Rattle.fluid_rules.proofs.Legal.{legal-first, legal-last}
use Rattle.fluid_rules.proofs.Pushed.{client-push}
use Rattle.fluid_rules.proofs.Verdicts.{verdict-is_message}
use Rattle.fluid_outbox.specs.Past.{Past, is_text, leaves, of_op, op_of, has_left, sent}
use Rattle.fluid_outbox.proofs.Orders.{same_text}
use Rattle.fluid_outbox.proofs.Sending.{some_is}
use Rattle.fluid_runtime.specs.App.{is_op}
use Rattle.fluid_loader.specs.Container.{is_from}
use Rattle.fluid_holding.specs.Holding.{is_made_by}
use Rattle.fluid_roamers.specs.Ahead.{is_own, is_under, IsNextOp, IsOther, IsAhead, own_in, left_in, IsBeside, OthersStayBeside}

-- ---- messages ahead, with one more

pub ahead_other : (c : List ℕ) (next : ℕ) (left : Bool) (ms : List Message) (m : Message) → IsOther c m → IsAhead c next left ms → IsAhead c next left (ms ++ m ∷ [])
ahead_other c next left [] m other ahead = inr (other, tt)
ahead_other c next left (x ∷ xs) m other (inl (own, rest)) = inl (own, ahead_other c (next + 1) left xs m other rest)
ahead_other c next left (x ∷ xs) m other (inr (is, rest)) = inr (is, ahead_other c next (leaves c x || left) xs m other rest)

pub left_more : (c : List ℕ) (left : Bool) (ms : List Message) (m : Message) → left_in c left (ms ++ m ∷ []) ≡ (leaves c m || left_in c left ms)
left_more c left [] m = refl
left_more c left (x ∷ xs) m = left_more c (leaves c x || left) xs m

own_cons : (c : List ℕ) (x : Message) (xs : List Message) → own_in c (x ∷ xs) ≡ cond (is_own c x) 1 0 + own_in c xs
own_cons c x xs = sum_by-cons (λ y. cond (is_own c y) 1 0) x xs

pub own_yes : (c : List ℕ) (x : Message) (xs : List Message) → is_own c x ≡ true → own_in c (x ∷ xs) ≡ 1 + own_in c xs
own_yes c x xs is = own_cons c x xs ∙ ap (λ b. cond b 1 0 + own_in c xs) is

pub own_no : (c : List ℕ) (x : Message) (xs : List Message) → is_own c x ≡ false → own_in c (x ∷ xs) ≡ own_in c xs
own_no c x xs is = own_cons c x xs ∙ ap (λ b. cond b 1 0 + own_in c xs) is ∙ none (own_in c xs)
  where
    none : (n : ℕ) → 0 + n ≡ n
    none n = omega arith

pub own_more : (c : List ℕ) (ms : List Message) (m : Message) → own_in c (ms ++ m ∷ []) ≡ own_in c ms + own_in c (m ∷ [])
own_more c ms m = sum_by-append (λ y. cond (is_own c y) 1 0) ms (m ∷ [])

own_none : (c : List ℕ) → own_in c [] ≡ 0
own_none c = refl

pub ahead_own : (c : List ℕ) (next : ℕ) (left : Bool) (ms : List Message) (m : Message) → IsNextOp c (next + own_in c ms) (left_in c left ms) m → IsAhead c next left ms → IsAhead c next left (ms ++ m ∷ [])
ahead_own c next left [] m is ahead = inl (subst (λ n. IsNextOp c n left m) (none next) is, tt)
  where
    none : (n : ℕ) → n + own_in c [] ≡ n
    none n = omega (arith, own_none c)
ahead_own c next left (x ∷ xs) m is (inl (own, rest)) =
    inl (
      own,
      ahead_own c (next + 1) left xs m
          (subst (λ l. IsNextOp c (next + 1 + own_in c xs) (left_in c l xs) m) (ap (λ b. b || left) own.stays)
          (subst (λ n. IsNextOp c n (left_in c (leaves c x || left) xs) m) (omega (arith, own_yes c x xs own.own)) is)) rest,
    )
ahead_own c next left (x ∷ xs) m is (inr (other, rest)) =
    inr (other, ahead_own c next (leaves c x || left) xs m (subst (λ n. IsNextOp c (next + n) (left_in c (leaves c x || left) xs) m) (own_no c x xs other.other) is) rest)

-- ---- which messages

no_op : (kind : Kind) → of_op {A = List ℕ × ℕ} kind None ≡ None
no_op kind.Op = refl
no_op kind.Noop = refl
no_op kind.Propose = refl
no_op kind.Reject = refl
no_op kind.Summarize = refl
no_op kind.Join = refl
no_op kind.Leave = refl
no_op kind.SummaryAck = refl
no_op kind.SummaryNack = refl

no_leave : (kind : Kind) → of_leave {A = List ℕ} kind None ≡ None
no_leave kind.Op = refl
no_leave kind.Noop = refl
no_leave kind.Propose = refl
no_leave kind.Reject = refl
no_leave kind.Summarize = refl
no_leave kind.Join = refl
no_leave kind.Leave = refl
no_leave kind.SummaryAck = refl
no_leave kind.SummaryNack = refl

and_no : (b : Bool) → (b && false) ≡ false
and_no true = refl
and_no false = refl

-- a message that says nothing of the client
record Silent (c : List ℕ) (m : Message) : Type 0 where
  other : IsOther c m
  stays : leaves c m ≡ false

joining_silent : (c : List ℕ) (l : Ledger) (id : List ℕ) (scopes : Scopes) (detail : Tree) (moment : ℕ) (m : Message) → message l (Join id scopes detail moment) ≡ Some m → Silent c m
unfolding message unsettled op_of leaves
joining_silent c l id scopes detail moment m is = rw (sym (some_is _ m is)) (record { other = record { op = refl; other = refl }; stays = refl })

leaving_other : (c : List ℕ) (l : Ledger) (id : List ℕ) (moment : ℕ) (m : Message) → message l (Leave id moment) ≡ Some m → IsOther c m
unfolding message unsettled op_of
leaving_other c l id moment m is = rw (sym (some_is _ m is)) (record { op = refl; other = refl })

-- its data is the text of the id
leaving_own : (c : List ℕ) (l : Ledger) (moment : ℕ) (m : Message) → message l (Leave c moment) ≡ Some m → leaves c m ≡ true
unfolding message unsettled leaves
leaving_own c l moment m is = rw (sym (some_is _ m is)) (own_id (printed (text c)))

true_false : true ≡ false → ⊥
true_false h = cc

leaving_stays : (c : List ℕ) (l : Ledger) (id : List ℕ) (moment : ℕ) (m : Message) → message l (Leave id moment) ≡ Some m → bytes_eq id c ≡ false → leaves c m ≡ false
unfolding message unsettled leaves
leaving_stays c l id moment m is other =
    rw (sym (some_is _ m is))
    (false_from_ne_true _ (λ same. true_false (sym (own_id c) ∙ ap (λ x. bytes_eq x c) (sym (same_text id c (same_id (printed (text id)) (printed (text c)) same))) ∙ other)))

submit_op : (l : Ledger) (id : List ℕ) (submission : Submission) (moment : ℕ) (m : Message) → message l (Submit id submission moment) ≡ Some m →
    op_of m ≡ of_op (kind_of submission.kind) (Some (id, submission.client_number))
unfolding message unsettled op_of
submit_op l id submission moment m is = rw (sym (some_is _ m is)) refl

submit_client : (l : Ledger) (id : List ℕ) (submission : Submission) (moment : ℕ) (m : Message) → message l (Submit id submission moment) ≡ Some m → m.client ≡ Some id
unfolding message unsettled
submit_client l id submission moment m is = rw (sym (some_is _ m is)) refl

submit_kind : (l : Ledger) (id : List ℕ) (submission : Submission) (moment : ℕ) (m : Message) → message l (Submit id submission moment) ≡ Some m → m.kind ≡ kind_of submission.kind
unfolding message unsettled
submit_kind l id submission moment m is = rw (sym (some_is _ m is)) refl

submit_stays : (c : List ℕ) (l : Ledger) (id : List ℕ) (submission : Submission) (moment : ℕ) (m : Message) → message l (Submit id submission moment) ≡ Some m → leaves c m ≡ false
unfolding message unsettled leaves
submit_stays c l id submission moment m is =
    rw (sym (some_is _ m is)) (ap (λ (t : Option (List ℕ)). is_text t (printed (text c))) (no_leave (kind_of submission.kind)))

submitting_silent : (c : List ℕ) (l : Ledger) (id : List ℕ) (submission : Submission) (moment : ℕ) (m : Message) → message l (Submit id submission moment) ≡ Some m → bytes_eq id c ≡ false → Silent c m
submitting_silent c l id submission moment m is apart = record {
  other = record {
    op = ap (is_under c) (submit_op l id submission moment m is) ∙ at submission.kind;
    other = ap (λ o. is_from c o && is_op m) (submit_client l id submission moment m is) ∙ ap (λ b. b && is_op m) apart;
  };
  stays = submit_stays c l id submission moment m is;
}
  where
    at : (offer : Offered) → is_under c (of_op (kind_of offer) (Some (id, submission.client_number))) ≡ false
    at offered.Op = apart
    at offered.Noop = refl
    at offered.Propose = refl
    at offered.Reject = refl
    at offered.Summarize = refl

-- the client's own op
pub own_op : (c : List ℕ) (l : Ledger) (submission : Submission) (moment : ℕ) (left : Bool) (m : Message) → message l (Submit c submission moment) ≡ Some m → submission.kind ≡ offered.Op → left ≡ false
    → IsNextOp c submission.client_number left m
own_op c l submission moment left m is op before = record {
  op = submit_op l c submission moment m is ∙ ap (λ k. of_op (kind_of k) (Some (c, submission.client_number))) op;
  own = ap (λ o. is_from c o && is_op m) (submit_client l c submission moment m is) ∙ ap (λ b. b && is_op m) (own_id c)
      ∙ ap (λ k. is_some (of_op k (Some true))) (submit_kind l c submission moment m is ∙ ap kind_of op);
  before = before;
  stays = submit_stays c l c submission moment m is;
}

reporting_at : (c : List ℕ) (l : Ledger) (raw : Raw) (number moment : ℕ) (said : Option (Kind × Tree)) (m : Message) →
    option_map (settled l raw) (option_map (answer_message number moment) said) ≡ Some m → Silent c m
unfolding op_of leaves
reporting_at c l raw number moment None m is = absurd (cc)
reporting_at c l raw number moment (Some said) m is =
    rw (sym (some_is _ m is)) (record {
      other = record { op = ap (is_under c) (no_op said.0); other = refl };
      stays = ap (λ (t : Option (List ℕ)). is_text t (printed (text c))) (no_leave said.0);
    })

reporting_silent : (c : List ℕ) (l : Ledger) (summary : ℕ) (found : Bool) (moment : ℕ) (m : Message) → message l (Report summary found moment) ≡ Some m → Silent c m
unfolding message unsettled
reporting_silent c l summary found moment m is =
    reporting_at c l (Report summary found moment) (seq l + 1) moment (reported summary (answer (order l) summary found)) m is

-- ---- what an entry of another says of a client

abbrev pub here : Ledger → List ℕ → Bool
here l c = is_some (client l c)

-- it brings no message, and the client is where it was; or one that is no op of the client's, by which it may leave
pub record Passes (c : List ℕ) (l : Ledger) (entry : Entry) (ms : List Message) : Type 0 where
  pub others : (ms ≡ []) ⊎ ((m : Message) × ((ms ≡ m ∷ []) × IsOther c m))
  pub left : not (here (l ++ entry ∷ []) c) ≡ (list_any (leaves c) ms || not (here l c))

still : (f : Client → Client) (o : Option Client) → is_some (option_map f o) ≡ is_some o
still f None = refl
still f (Some said) = refl

module _ (c : List ℕ) (l : Ledger) where
  -- no message, and the client as before
  quiet : (entry : Entry) → messages_of entry.1 ≡ [] → is_some (client_behind entry (seq l) (minimum l) c (client l c)) ≡ here l c → Passes c l entry (messages_of entry.1)
  quiet entry none same = record {
    others = inl none;
    left = ap (λ o. not (is_some o)) (client-push l entry c) ∙ ap not same ∙ ap (λ (ms : List Message). list_any (leaves c) ms || not (here l c)) (sym none);
  }

  -- one message that says nothing of it
  silent : (entry : Entry) (m : Message) → messages_of entry.1 ≡ m ∷ [] → Silent c m → is_some (client_behind entry (seq l) (minimum l) c (client l c)) ≡ here l c → Passes c l entry (messages_of entry.1)
  silent entry m one says same = record {
    others = inr (m, (one, says.other));
    left = ap (λ o. not (is_some o)) (client-push l entry c) ∙ ap not same
        ∙ ap (λ b. (b || false) || not (here l c)) (sym says.stays) ∙ ap (λ (ms : List Message). list_any (leaves c) ms || not (here l c)) (sym one);
  }

  heard_if : (b : Bool) (f : Client → Client) → is_some (if b then option_map f (client l c) else client l c) ≡ here l c
  heard_if true f = still f (client l c)
  heard_if false f = refl

  join_passes : (id : List ℕ) (scopes : Scopes) (detail : Tree) (moment : ℕ) (v : Verdict) → v ≡ verdict l (Join id scopes detail moment) → bytes_eq id c ≡ false
      → Passes c l (Join id scopes detail moment, v) (messages_of v)
  join_passes id scopes detail moment (Sequenced m) is apart =
      silent (Join id scopes detail moment, Sequenced m) m refl (joining_silent c l id scopes detail moment m (verdict-is_message l _ m (sym is))) (rw apart refl)
  join_passes id scopes detail moment (Nacked n) is apart = quiet (Join id scopes detail moment, Nacked n) refl (rw apart refl)
  join_passes id scopes detail moment Dropped is apart = quiet (Join id scopes detail moment, Dropped) refl (rw apart refl)
  join_passes id scopes detail moment Absorbed is apart = quiet (Join id scopes detail moment, Absorbed) refl (rw apart refl)

  own_leave : (moment : ℕ) (m : Message) → message l (Leave c moment) ≡ Some m → Passes c l (Leave c moment, Sequenced m) (m ∷ [])
  own_leave moment m is = record {
    others = inr (m, (refl, leaving_other c l c moment m is));
    left = ap (λ o. not (is_some o)) (client-push l (Leave c moment, Sequenced m) c)
        ∙ ap (λ b. not (is_some (if b then None else client l c))) (own_id c)
        ∙ ap (λ b. (b || false) || not (here l c)) (sym (leaving_own c l moment m is));
  }

  leave_by : (id : List ℕ) (moment : ℕ) (m : Message) (own : Bool) → bytes_eq id c ≡ own → message l (Leave id moment) ≡ Some m → Passes c l (Leave id moment, Sequenced m) (m ∷ [])
  leave_by id moment m true own is =
      subst (λ x. message l (Leave x moment) ≡ Some m → Passes c l (Leave x moment, Sequenced m) (m ∷ [])) (sym (same_id id c own)) (own_leave moment m) is
  leave_by id moment m false apart is =
      silent (Leave id moment, Sequenced m) m refl (record { other = leaving_other c l id moment m is; stays = leaving_stays c l id moment m is apart }) (rw apart refl)

  pub leave_passes : (id : List ℕ) (moment : ℕ) (v : Verdict) → v ≡ verdict l (Leave id moment) → Passes c l (Leave id moment, v) (messages_of v)
  leave_passes id moment (Sequenced m) is = leave_by id moment m (bytes_eq id c) refl (verdict-is_message l _ m (sym is))
  leave_passes id moment (Nacked n) is = quiet (Leave id moment, Nacked n) refl (heard_if (bytes_eq id c) (client_heard moment))
  leave_passes id moment Dropped is = quiet (Leave id moment, Dropped) refl (heard_if (bytes_eq id c) (client_heard moment))
  leave_passes id moment Absorbed is = quiet (Leave id moment, Absorbed) refl (heard_if (bytes_eq id c) (client_heard moment))

  submit_passes : (id : List ℕ) (submission : Submission) (moment : ℕ) (v : Verdict) → v ≡ verdict l (Submit id submission moment) → bytes_eq id c ≡ false
      → Passes c l (Submit id submission moment, v) (messages_of v)
  submit_passes id submission moment (Sequenced m) is apart =
      silent (Submit id submission moment, Sequenced m) m refl (submitting_silent c l id submission moment m (verdict-is_message l _ m (sym is)) apart) (rw apart refl)
  submit_passes id submission moment (Nacked n) is apart = quiet (Submit id submission moment, Nacked n) refl (rw apart refl)
  submit_passes id submission moment Dropped is apart = quiet (Submit id submission moment, Dropped) refl (rw apart refl)
  submit_passes id submission moment Absorbed is apart = quiet (Submit id submission moment, Absorbed) refl (rw apart refl)

  report_passes : (summary : ℕ) (found : Bool) (moment : ℕ) (v : Verdict) → v ≡ verdict l (Report summary found moment) → Passes c l (Report summary found moment, v) (messages_of v)
  report_passes summary found moment (Sequenced m) is =
      silent (Report summary found moment, Sequenced m) m refl (reporting_silent c l summary found moment m (verdict-is_message l _ m (sym is))) refl
  report_passes summary found moment (Nacked n) is = quiet (Report summary found moment, Nacked n) refl refl
  report_passes summary found moment Dropped is = quiet (Report summary found moment, Dropped) refl refl
  report_passes summary found moment Absorbed is = quiet (Report summary found moment, Absorbed) refl refl

  passes : (entry : Entry) → entry.1 ≡ verdict l entry.0 → is_made_by c entry.0 ≡ false → Passes c l entry (messages_of entry.1)
  passes (Join id scopes detail moment, v) is apart = join_passes id scopes detail moment v is apart
  passes (Leave id moment, v) is apart = leave_passes id moment v is
  passes (Submit id submission moment, v) is apart = submit_passes id submission moment v is apart
  passes (Report summary found moment, v) is apart = report_passes summary found moment v is

  -- a client that left isn't there
  pub left_gone : (moment : ℕ) → here (l ++ (Leave c moment, verdict l (Leave c moment)) ∷ []) c ≡ false
  unfolding verdict message unsettled
  left_gone moment = ap is_some (client-push l (Leave c moment, verdict l (Leave c moment)) c) ∙ by (is_joined l c) refl
    where
      by : (b : Bool) → is_joined l c ≡ b → is_some (client_behind (Leave c moment, verdict l (Leave c moment)) (seq l) (minimum l) c (client l c)) ≡ false
      by true is = rw (is, own_id c) refl
      by false is = rw (is, own_id c, client-stranger l c is) refl

  -- its own refused entry
  pub own_nacked : (submission : Submission) (moment : ℕ) (n : Nack) → here (l ++ (Submit c submission moment, Nacked n) ∷ []) c ≡ here l c
  own_nacked submission moment n = ap is_some (client-push l (Submit c submission moment, Nacked n) c) ∙ heard_if (bytes_eq c c) (λ said. client_heard moment (client_submitting (seq l) submission (Nacked n) said))

  pub own_taken : (submission : Submission) (moment : ℕ) (m : Message) → here (l ++ (Submit c submission moment, Sequenced m) ∷ []) c ≡ here l c
  own_taken submission moment m = ap is_some (client-push l (Submit c submission moment, Sequenced m) c) ∙ heard_if (bytes_eq c c) (λ said. client_heard moment (client_submitting (seq l) submission (Sequenced m) said))

-- ---- one entry more

pub seq_is : (l : Ledger) → seq l ≡ length (order l)
unfolding seq
seq_is l = refl

pub drop_push : (l : Ledger) (entry : Entry) (number : ℕ) → number ≤ seq l → drop number (order (l ++ entry ∷ [])) ≡ drop number (order l) ++ messages_of entry.1
drop_push l entry number le = ap (drop number) (order-push l entry) ∙ drop-append-le number (order l) (messages_of entry.1) (omega (arith, le, seq_is l))

module _ (l : Ledger) (past : Past) (c : List ℕ) (number before own : ℕ) (le : number ≤ seq l) (is : IsBeside l past c number before own) where
  abbrev ms : List Message
  ms = drop number (order l)

  pub passed : (entry : Entry) → Passes c l entry (messages_of entry.1) → IsBeside (l ++ entry ∷ []) past c number before own
  passed entry p = by (messages_of entry.1) refl p.others p.left
    where
      by : (more : List Message) → messages_of entry.1 ≡ more → (more ≡ []) ⊎ ((m : Message) × ((more ≡ m ∷ []) × IsOther c m))
          → not (here (l ++ entry ∷ []) c) ≡ (list_any (leaves c) more || not (here l c)) → IsBeside (l ++ entry ∷ []) past c number before own
      by more are (inl none) left =
          let same : drop number (order (l ++ entry ∷ [])) ≡ ms = drop_push l entry number le ∙ ap (λ xs. ms ++ xs) (are ∙ none) ∙ append-nil ms in
          record {
            acknowledged_are = is.acknowledged_are;
            sent_in_turn = is.sent_in_turn;
            ahead = subst (IsAhead c (own + 1) (has_left past c)) (sym same) is.ahead;
            few = subst (λ xs. own + own_in c xs ≤ sent past c) (sym same) is.few;
            left = ap (left_in c (has_left past c)) same ∙ is.left ∙ ap (λ (xs : List Message). list_any (leaves c) xs || not (here l c)) (sym none) ∙ sym left;
            settled = is.settled;
          }
      by more are (inr (m, (one, other))) left =
          let same : drop number (order (l ++ entry ∷ [])) ≡ ms ++ m ∷ [] = drop_push l entry number le ∙ ap (λ xs. ms ++ xs) (are ∙ one) in
          record {
            acknowledged_are = is.acknowledged_are;
            sent_in_turn = is.sent_in_turn;
            ahead = subst (IsAhead c (own + 1) (has_left past c)) (sym same) (ahead_other c (own + 1) (has_left past c) ms m other is.ahead);
            few = subst (λ xs. own + own_in c xs ≤ sent past c) (sym same) (omega (arith, is.few, own_more c ms m, own_no c m [] other.other, own_none c));
            left = ap (left_in c (has_left past c)) same ∙ left_more c (has_left past c) ms m ∙ ap (λ b. leaves c m || b) is.left ∙ ap (λ b. b || not (here l c)) (or_none (leaves c m))
                ∙ ap (λ (xs : List Message). list_any (leaves c) xs || not (here l c)) (sym one) ∙ sym left;
            settled = is.settled;
          }
        where
          or_none : (b : Bool) → b ≡ (b || false)
          or_none true = refl
          or_none false = refl

others_one : (l : Ledger) (entry : Entry) (past : Past) (c : List ℕ) (number before own : ℕ) → IsLegal (l ++ entry ∷ []) → number ≤ seq l → is_made_by c entry.0 ≡ false → IsBeside l past c number before own
    → IsBeside (l ++ entry ∷ []) past c number before own
others_one l entry past c number before own legal le apart is = passed l past c number before own le is entry (passes c l entry (legal-last l entry legal) apart)

-- nor do they bring ops of its own
others_count_one : (l : Ledger) (entry : Entry) (c : List ℕ) (number : ℕ) → IsLegal (l ++ entry ∷ []) → number ≤ seq l → is_made_by c entry.0 ≡ false
    → own_in c (drop number (order (l ++ entry ∷ []))) ≡ own_in c (drop number (order l))
others_count_one l entry c number legal le apart = ap (own_in c) (drop_push l entry number le) ∙ by (messages_of entry.1) (passes c l entry (legal-last l entry legal) apart).others
  where
    by : (more : List Message) → (more ≡ []) ⊎ ((m : Message) × ((more ≡ m ∷ []) × IsOther c m)) → own_in c (drop number (order l) ++ more) ≡ own_in c (drop number (order l))
    by more (inl none) = ap (λ xs. own_in c (drop number (order l) ++ xs)) none ∙ ap (own_in c) (append-nil (drop number (order l)))
    by more (inr (m, (one, other))) =
        ap (λ xs. own_in c (drop number (order l) ++ xs)) one ∙ omega (arith, own_more c (drop number (order l)) m, own_no c m [] other.other, own_none c)

pub others_count : (l more : Ledger) (c : List ℕ) (number : ℕ) → IsLegal (l ++ more) → number ≤ seq l → All (λ entry. is_made_by c entry.0 ≡ false) more
    → own_in c (drop number (order (l ++ more))) ≡ own_in c (drop number (order l))
others_count l [] c number legal le all = ap (λ m. own_in c (drop number (order m))) (append-nil l)
others_count l (entry ∷ more) c number legal le all =
    let assoc : (l ++ entry ∷ []) ++ more ≡ l ++ entry ∷ more = append_assoc l (entry ∷ []) more in
    let legal_all = subst IsLegal (sym assoc) legal in
    let legal_one : IsLegal (l ++ entry ∷ []) = legal-first (l ++ entry ∷ []) more legal_all in
    ap (λ m. own_in c (drop number (order m))) (sym assoc)
    ∙ others_count (l ++ entry ∷ []) more c number legal_all (omega (arith, le, seq-push l entry)) (All-tail (λ (e : Entry). is_made_by c e.0 ≡ false) entry more all)
    ∙ others_count_one l entry c number legal_one le (All-head (λ (e : Entry). is_made_by c e.0 ≡ false) entry more all)

pub others_stay_beside : OthersStayBeside
others_stay_beside l [] past c number before own legal le all is = subst (λ m. IsBeside m past c number before own) (sym (append-nil l)) is
others_stay_beside l (entry ∷ more) past c number before own legal le all is =
    let assoc : (l ++ entry ∷ []) ++ more ≡ l ++ entry ∷ more = append_assoc l (entry ∷ []) more in
    let legal_all = subst IsLegal (sym assoc) legal in
    let legal_one : IsLegal (l ++ entry ∷ []) = legal-first (l ++ entry ∷ []) more legal_all in
    subst (λ m. IsBeside m past c number before own) assoc
    (others_stay_beside (l ++ entry ∷ []) more past c number before own legal_all (omega (arith, le, seq-push l entry))
    (All-tail (λ (e : Entry). is_made_by c e.0 ≡ false) entry more all)
    (others_one l entry past c number before own legal_one le (All-head (λ (e : Entry). is_made_by c e.0 ≡ false) entry more all) is))
