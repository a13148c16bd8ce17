-- What a document answers to a connect.
use Rattle.std.proofs.Common.{◌≡◌, ◌∙◌, ℕ, ◌+◌, ◌-◌, ◌≤◌, ◌^◌, Bool, true, false, if◌then◌else◌, List, ◌++◌, length, map, Some, None, Result, Ok, Err, IfOk, IfErr, append-nil, refl, sym, ap, subst, arith}
use Rattle.std.specs.FinMap.{empty}
use Rattle.std.proofs.Math.Nat.{min-le_left}
use Rattle.fluid_json.specs.Tree.{Tree}
use Rattle.fluid_turn.specs.Entries.{by_seat, entries}
use Rattle.fluid_types.specs.Ledger.{Ledger, order, seq}
use Rattle.fluid_types.specs.Names.{entry_name}
use Rattle.fluid_types.specs.declared.entries.Scopes.{Scopes}
use Rattle.fluid_types.specs.declared.entries.Raw.{Raw}
use Rattle.fluid_types.specs.declared.messages.Message.{Message}
use Rattle.fluid_types.specs.declared.verdicts.Verdict.{Verdict}
use Rattle.fluid_types.specs.declared.verdicts.Verdict.TheVariants as verdict
use Rattle.fluid_rules.specs.Rules.{verdict as verdict_of}
use Rattle.fluid_rules.specs.Counted.{is_full, has_too_many_clients}
use Rattle.fluid_rules.proofs.Verdicts.{verdict-is_message, message-number}
use Rattle.fluid_types.specs.Forms.{largest}
use Rattle.fluid_deltas.specs.declared.fault.DeltaFault.{DeltaFault}
use Rattle.fluid_deltas.specs.declared.fault.DeltaFault.TheVariants as delta
use Rattle.fluid_store.specs.Storing.{Storing}
use Rattle.fluid_lane.specs.declared.fault.LaneFault.{LaneFault}
use Rattle.fluid_lane.specs.declared.fault.LaneFault.TheVariants as lane
use Rattle.fluid_lane.specs.Steps.{steps_of}
use Rattle.fluid_doors.specs.Terms.{Doorway}
use Rattle.fluid_doors.specs.Passing.{APass, Grows}
use Rattle.fluid_doors.specs.Entering.{Joins, joined_as}
use Rattle.fluid_doors.specs.Looking.{SuitsLook}
use Rattle.fluid_service.specs.Visiting.{Visiting}
use Rattle.fluid_voice.specs.declared.actions.Act.{Act}
use Rattle.fluid_voice.specs.declared.actions.Act.TheVariants as act
use Rattle.fluid_voice.specs.declared.ends.ActEnd.{ActEnd}
use Rattle.fluid_voice.specs.declared.ends.ActEnd.TheVariants as end
use Rattle.fluid_voice.specs.States.{number_behind}
use Rattle.fluid_voice.specs.Ends.{Outcome, join_of, join_end, joined_by}
use Rattle.fluid_voice.specs.Ends.Outcome.{ends}
use Rattle.fluid_ends.specs.declared.fault.TalkFault.{TalkFault}
use Rattle.fluid_talk.specs.Talking.{Knowing, ledger_of, order_of, number_behind_last}
use Rattle.fluid_talk.specs.Hearing.{IsConnectEnd, IsFaultOf}
use Rattle.fluid_connection.specs.declared.connecting.Connect.{Connect}
use Rattle.fluid_connection.specs.Knowing.{knowing}
use Rattle.fluid_connection.specs.Entering.{joined, looked, DoesOne, DoesAs}
use Rattle.fluid_connection.specs.Connecting.{act_of, IsAheadIn, Greets, MaySettle}
use Rattle.fluid_connection.proofs.Hears.{behind_later}
use Rattle.fluid_connection.proofs.Joining.{joins}

-- ---- which ends and faults a door has

pub joined_ends : (name own : List ℕ) (write : Bool) (scopes : Scopes) (detail : Tree) (moment : ℕ) (r : Result (List ℕ × Message) LaneFault)
    → IfOk (joined r) (IsConnectEnd (Some name) (act.Connect own write scopes detail moment)) × IfErr (joined r) (λ fault. IsFaultOf (Some name) (Some fault))
joined_ends name own write scopes detail moment (Ok (id, message)) = (tt, tt)
joined_ends name own write scopes detail moment (Err (lane.LogFailed note)) = (tt, tt)
joined_ends name own write scopes detail moment (Err (lane.Full entries)) = (tt, tt)
joined_ends name own write scopes detail moment (Err (lane.BadRecord place)) = (tt, tt)
joined_ends name own write scopes detail moment (Err (lane.NoCheckpoint asked stored)) = (tt, tt)
joined_ends name own write scopes detail moment (Err lane.CheckpointsFull) = (tt, tt)
joined_ends name own write scopes detail moment (Err lane.TooManyClients) = (tt, tt)
joined_ends name own write scopes detail moment (Err (lane.DeltaFailed note)) = (tt, tt)
joined_ends name own write scopes detail moment (Err lane.NoMemory) = (tt, tt)
joined_ends name own write scopes detail moment (Err (lane.BadCheckpoint number bad)) = (tt, tt)
joined_ends name own write scopes detail moment (Err (lane.TooLarge bytes)) = (tt, tt)
joined_ends name own write scopes detail moment (Err lane.Worn) = (tt, tt)

pub looked_ends : (name own : List ℕ) (write : Bool) (scopes : Scopes) (detail : Tree) (moment : ℕ) (r : Result ActEnd DeltaFault) → IfOk r (SuitsLook (act.Connect own write scopes detail moment))
    → IfOk (looked r) (IsConnectEnd (Some name) (act.Connect own write scopes detail moment)) × IfErr (looked r) (λ fault. IsFaultOf (Some name) (Some fault))
looked_ends name own write scopes detail moment (Ok (end.Told last)) suits = (tt, tt)
looked_ends name own write scopes detail moment (Ok end.Said) suits = absurd suits
looked_ends name own write scopes detail moment (Ok (end.Joined id number)) suits = absurd suits
looked_ends name own write scopes detail moment (Ok (end.Entered v)) suits = absurd suits
looked_ends name own write scopes detail moment (Ok end.FullNow) suits = absurd suits
looked_ends name own write scopes detail moment (Ok end.TooMany) suits = absurd suits
looked_ends name own write scopes detail moment (Ok (end.Given reply)) suits = absurd suits
looked_ends name own write scopes detail moment (Err (delta.DeltaFailed note)) suits = (tt, tt)
looked_ends name own write scopes detail moment (Err (delta.BadDelta number)) suits = (tt, tt)
looked_ends name own write scopes detail moment (Err delta.NoMemory) suits = (tt, tt)
looked_ends name own write scopes detail moment (Err delta.Worn) suits = (tt, tt)

-- ---- the number of the message that is delivered next

ends_same : (a b : ActEnd) → ◌≡◌ {A = Outcome} (ends a) (ends b) → a ≡ b
ends_same a b same = cc

seq_is : (l : Ledger) → seq l ≡ length (order l)
unfolding seq
seq_is l = refl

behind_at : (last len : ℕ) → len ≡ last → number_behind last ≤ len + 1
behind_at last len same = omega (arith, min-le_left (last + 1) (2 ^ 64 - 1), same)

abbrev told_number : ActEnd → ℕ
told_number (end.Told last) = last
told_number e = 0

abbrev nothing_held : Storing
nothing_held = record { content = None; faults = 0; gets = 0 }

-- who reads is told the last number
told_next : (p q : Knowing) (name : List ℕ) (scopes : Scopes) (detail : Tree) (moment : ℕ) (last : ℕ) (one : DoesOne p q (act.Connect name false scopes detail moment) (end.Told last))
    → q.told ≡ true → number_behind last ≤ number_behind_last q.seen
told_next p q name scopes detail moment last one told =
    let said : end.Told (seq (ledger_of one.found)) ≡ end.Told last = ends_same _ _ (one.answered nothing_held empty (sym one.goes.same.told ∙ told)) in
    let same : q.seen ≡ one.found = one.seen ∙ ap (λ l. one.found ++ map (by_seat p.number) l) one.is_done.adds ∙ append-nil one.found in
    subst (λ l. number_behind last ≤ number_behind_last l) (sym same) (behind_at last (length (order_of one.found)) (sym (seq_is (ledger_of one.found)) ∙ ap told_number said))

-- who writes gets the number behind the last one
abbrev joined_number : ActEnd → ℕ
joined_number (end.Joined id number) = number
joined_number e = 0

number_by : (l : Ledger) (raw : Raw) (own id : List ℕ) (v : Verdict) (number : ℕ) → v ≡ verdict_of l raw → joined_by own v ≡ end.Joined id number → number ≡ seq l + 1
number_by l raw own id (verdict.Sequenced message) number is same = sym (ap joined_number same) ∙ message-number l raw message (verdict-is_message l raw message (sym is))
number_by l raw own id (verdict.Nacked nack) number is same = cc
number_by l raw own id verdict.Dropped number is same = cc
number_by l raw own id verdict.Absorbed number is same = cc

end_by : (l : Ledger) (raw : Raw) (own id : List ℕ) (full many : Bool) (number : ℕ) → (if full then end.FullNow else if many then end.TooMany else joined_by own (verdict_of l raw)) ≡ end.Joined id number
    → number ≡ seq l + 1
end_by l raw own id true many number same = cc
end_by l raw own id false true number same = cc
end_by l raw own id false false number same = number_by l raw own id (verdict_of l raw) number refl same

joined_next : (p q : Knowing) (name : List ℕ) (scopes : Scopes) (detail : Tree) (moment : ℕ) (id : List ℕ) (number : ℕ) (one : DoesOne p q (act.Connect name true scopes detail moment) (end.Joined id number))
    → q.told ≡ true → number ≤ number_behind_last q.seen
joined_next p q name scopes detail moment id number one told =
    let l = ledger_of one.found in
    let join = join_of l scopes detail moment in
    let said : join_end p.limits l join ≡ end.Joined id number = ends_same _ _ (one.answered nothing_held empty (sym one.goes.same.told ∙ told)) in
    let is : number ≡ seq l + 1 = end_by l join (entry_name (length l)) id (is_full p.limits.entries l join) (has_too_many_clients p.limits.clients l join) number said in
    omega (arith, is, seq_is l, behind_later one.found q.seen (map (by_seat p.number) one.added, one.seen))

pub ahead_of : (p q : Knowing) (c : Connect) (e : ActEnd) → DoesOne p q (act_of c) e → IsAheadIn c.write q e
ahead_of p q c e one = by c.write c.name e one
  where
    by : (write : Bool) (name : List ℕ) (e : ActEnd) → DoesOne p q (act.Connect name write c.scopes c.detail c.moment) e → IsAheadIn write q e
    by true name (end.Joined id number) one = (one.is_done.suits, joined_next p q name c.scopes c.detail c.moment id number one)
    by true name end.Said one = tt
    by true name (end.Told last) one = tt
    by true name (end.Entered v) one = tt
    by true name end.FullNow one = tt
    by true name end.TooMany one = tt
    by true name (end.Given reply) one = tt
    by false name (end.Told last) one = told_next p q name c.scopes c.detail c.moment last one
    by false name end.Said one = tt
    by false name (end.Joined id number) one = tt
    by false name (end.Entered v) one = tt
    by false name end.FullNow one = tt
    by false name end.TooMany one = tt
    by false name (end.Given reply) one = tt

-- what was answered can be settled
pub greeted_settled : (c : Connect) (visit now : Visiting) (answer : Result ActEnd TalkFault) → visit.door.name ≡ c.name → Greets c visit now answer → MaySettle c.name c.write now answer
greeted_settled c visit now answer named h = record {
  named = ap (λ d. d.name) h.door ∙ named;
  few = h.few;
  ahead = by answer h.does;
}
  where
    by : (r : Result ActEnd TalkFault) → DoesAs (knowing visit.door.name visit.pass) (knowing now.door.name now.pass) (act_of c) r → IfOk r (IsAheadIn c.write (knowing now.door.name now.pass))
    by (Ok e) one = ahead_of (knowing visit.door.name visit.pass) (knowing now.door.name now.pass) c e one
    by (Err fault) failed = tt

-- ---- a visit behind asking its document

pub greets_join : (c : Connect) (visit now : Visiting) (door : Doorway) (p q : APass) (r : Result (List ℕ × Message) LaneFault) → door ≡ visit.door → p ≡ visit.pass → now ≡ record { door = door; pass = q }
    → p.turn ≡ door.turn → c.write ≡ true → Grows p q (steps_of (joined_as c.scopes c.detail c.moment) r) (Joins door.turn.fixed c.scopes c.detail c.moment r) → Greets c visit now (joined r)
greets_join c visit now door p q r is_door is_pass is_now turn write grows =
    let grown = subst (λ t. Grows p q (steps_of (joined_as c.scopes c.detail c.moment) r) (Joins t.fixed c.scopes c.detail c.moment r)) (sym turn) grows in
    let ends = joined_ends visit.door.name c.name c.write c.scopes c.detail c.moment r in
    subst (λ n. Greets c visit n (joined r)) (sym is_now) (record {
      door = is_door;
      few = grows.few;
      does =
          subst (λ d. DoesAs (knowing d.name visit.pass) (knowing door.name q) (act_of c) (joined r)) is_door
          (subst (λ k. DoesAs (knowing door.name k) (knowing door.name q) (act_of c) (joined r)) is_pass
          (subst (λ w. DoesAs (knowing door.name p) (knowing door.name q) (act.Connect c.name w c.scopes c.detail c.moment) (joined r)) (sym write)
          (joins door.name c.name p q c.scopes c.detail c.moment r grown)));
      ends = ends.0;
      faults = ends.1;
    })

pub greets_read : (c : Connect) (visit now : Visiting) (door : Doorway) (p q : APass) (a : Act) (r : Result ActEnd TalkFault) → door ≡ visit.door → p ≡ visit.pass → now ≡ record { door = door; pass = q }
    → a ≡ act_of c → length q.seen ≤ largest → (answer : Result ActEnd DeltaFault) → r ≡ looked answer → IfOk answer (SuitsLook a) → DoesAs (knowing door.name p) (knowing door.name q) a r → Greets c visit now r
greets_read c visit now door p q a r is_door is_pass is_now is_act few answer is suits does =
    let ends = looked_ends visit.door.name c.name c.write c.scopes c.detail c.moment answer (subst (λ b. IfOk answer (SuitsLook b)) is_act suits) in
    subst (λ n. Greets c visit n r) (sym is_now) (record {
      door = is_door;
      few = few;
      does =
          subst (λ d. DoesAs (knowing d.name visit.pass) (knowing door.name q) (act_of c) r) is_door
          (subst (λ k. DoesAs (knowing door.name k) (knowing door.name q) (act_of c) r) is_pass
          (subst (λ b. DoesAs (knowing door.name p) (knowing door.name q) b r) is_act does));
      ends = subst (λ x. IfOk x (IsConnectEnd (Some visit.door.name) (act_of c))) (sym is) ends.0;
      faults = subst (λ x. IfErr x (λ fault. IsFaultOf (Some visit.door.name) (Some fault))) (sym is) ends.1;
    })
