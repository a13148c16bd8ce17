-- What one message says of members and proposals is kept, where the message is read back from its text.
use Rattle.std.proofs.Common.{◌≡◌, ℕ, ◌≤◌, arith, Bool, true, false, cond, List, Option, Some, None, Result, Ok, Err, IsSomeAnd, MatchOption, bytes_eq, refl, sym, subst}
use Rattle.std.specs.Result.{result_ok}
use Rattle.fluid_json.specs.Tree.{Tree, null, boolean, whole, text, list, object, Members, no_members, member, members_depth, HasCanonical, IsCanonical, depth, find_member, find, as_text}
use Rattle.fluid_json.specs.Spelled.{answer}
use Rattle.fluid_json.specs.declared.fault.JsonFault.{JsonFault}
use Rattle.fluid_types.specs.Contents.{read_or, body_of, body}
use Rattle.fluid_types.specs.Names.{IsName, is_name}
use Rattle.fluid_types.specs.Texts.{name_of}
use Rattle.fluid_types.specs.Forms.{largest}
use Rattle.fluid_types.specs.Printed.{message_printed}
use Rattle.fluid_types.specs.Spellings.{Has, IsMember, SpellsCount}
use Rattle.fluid_types.specs.declared.fault.Field.{Field}
use Rattle.fluid_types.specs.declared.fault.Field.TheVariants as field
use Rattle.fluid_types.specs.declared.messages.Kind.{Kind}
use Rattle.fluid_types.specs.declared.messages.Kind.TheVariants as kind
use Rattle.fluid_types.specs.declared.messages.Message.{Message}
use Rattle.fluid_types.specs.declared.quorum.Member.{Member}
use Rattle.fluid_types.specs.declared.quorum.Proposal.{Proposal}
use Rattle.fluid_types.specs.Quorum.{of_join, of_propose, data_of, as_name, joining, member_of, proposing, proposal_of}
use Rattle.fluid_codec.proofs.Spelled.{messages_are_spelled}
use Rattle.fluid_readback.proofs.Values.{values_are_bounded}
use Rattle.fluid_readback.specs.Quorums.{IsReadAsItself}
use Rattle.fluid_readback.proofs.Each.{then_some}

-- a value that is in order and nested as deep as what is read at most
pub record IsDeep (value : Tree) : Type 0 where
  pub canonical : IsCanonical value
  pub shallow : depth value ≤ 100

-- ---- values

answered : (s : List ℕ) (t : Tree) → answer s ≡ Ok t → IsDeep t
answered s t h = let bounds = values_are_bounded s t h in record { canonical = bounds.canonical; shallow = omega (arith, bounds.shallow) }

in_members : (k : List ℕ) (ms : Members) (v : Tree) → find_member k ms ≡ Some v → HasCanonical ms → members_depth ms ≤ 99 → IsDeep v
in_members k no_members v h c d = cc
in_members k (member l t ms) v h c d = of (bytes_eq k l) h (λ g. in_members k ms v g c.1.1 (omega (arith, d)))
  where
    of : (b : Bool) → cond b (Some t) (find_member k ms) ≡ Some v → (find_member k ms ≡ Some v → IsDeep v) → IsDeep v
    of true h again = let same : t ≡ v = cc in subst IsDeep same (record { canonical = c.1.0; shallow = omega (arith, d) })
    of false h again = again h

found : (k : List ℕ) (t v : Tree) → IsDeep t → find k t ≡ Some v → IsDeep v
found k (object ms) v h f = in_members k ms v f h.canonical (omega (arith, h.shallow))
found k null v h f = cc
found k (boolean b) v h f = cc
found k (whole n) v h f = cc
found k (text s) v h f = cc
found k (list ts) v h f = cc

contents_kept : (t v : Tree) (f : Field) → IsDeep t → IsMember t f v → IsDeep v
contents_kept t v f h m = of (find (name_of f) t) refl m
  where
    of : (o : Option Tree) → find (name_of f) t ≡ o → MatchOption o (v ≡ null) (λ w. v ≡ w) → IsDeep v
    of None e m = subst IsDeep (sym m) (record { canonical = tt; shallow = omega arith })
    of (Some w) e m = subst IsDeep (sym m) (found (name_of f) t w h e)

count_fits : (t : Tree) (f : Field) (n : ℕ) → Has t f (SpellsCount 0) n → n ≤ largest
count_fits t f n h = of (find (name_of f) t) h
  where
    of : (o : Option Tree) → IsSomeAnd o (SpellsCount 0 n) → n ≤ largest
    of None h = absurd h
    of (Some v) h = h.most

-- ---- messages

-- the numbers of the message are in range, and its contents may stand in a blob
pub record IsInRange (m : Message) : Type 0 where
  pub number : m.number ≤ largest
  pub minimum : m.minimum ≤ largest
  pub contents : IsDeep m.contents

pub in_range : (m : Message) → IsReadAsItself m → IsInRange m
in_range m h =
    let spelled = (messages_are_spelled (message_printed m) m).0 h in
    let its = spelled.2 in
    record {
      number = count_fits spelled.0 field.SequenceNumber m.number its.its_number;
      minimum = count_fits spelled.0 field.MinimumSequenceNumber m.minimum its.its_minimum;
      contents = contents_kept spelled.0 m.contents field.Contents (answered (message_printed m) spelled.0 spelled.1) its.its_contents;
    }

read_kept : (contents : Tree) (s : List ℕ) (r : Result Tree JsonFault) → answer s ≡ r → IsDeep contents → IsDeep (read_or contents r)
read_kept contents s (Ok t) e h = answered s t e
read_kept contents s (Err fault) e h = h

body_kept : (contents : Tree) → IsDeep contents → IsDeep (body contents)
unfolding body
body_kept contents h = of (as_text contents)
  where
    of : (o : Option (List ℕ)) → IsDeep (body_of contents o)
    of None = h
    of (Some s) = read_kept contents s (answer s) refl h

-- ---- members

of_join-some : {A : Type 0} (k : Kind) (o : Option A) (a : A) → of_join k o ≡ Some a → o ≡ Some a
of_join-some kind.Join o a is = is
of_join-some kind.Op o a is = cc
of_join-some kind.Noop o a is = cc
of_join-some kind.Reject o a is = cc
of_join-some kind.Summarize o a is = cc
of_join-some kind.Propose o a is = cc
of_join-some kind.Leave o a is = cc
of_join-some kind.SummaryAck o a is = cc
of_join-some kind.SummaryNack o a is = cc

of_propose-some : {A : Type 0} (k : Kind) (o : Option A) (a : A) → of_propose k o ≡ Some a → o ≡ Some a
of_propose-some kind.Propose o a is = is
of_propose-some kind.Op o a is = cc
of_propose-some kind.Noop o a is = cc
of_propose-some kind.Reject o a is = cc
of_propose-some kind.Summarize o a is = cc
of_propose-some kind.Join o a is = cc
of_propose-some kind.Leave o a is = cc
of_propose-some kind.SummaryAck o a is = cc
of_propose-some kind.SummaryNack o a is = cc

ok_of : (r : Result Tree JsonFault) (t : Tree) → result_ok r ≡ Some t → r ≡ Ok t
ok_of (Ok u) t h = cc
ok_of (Err fault) t h = cc

data_kept : (m : Message) (t : Tree) → data_of m ≡ Some t → IsDeep t
data_kept m t h = let s = then_some (λ s. result_ok (answer s)) m.system t h in answered s.0 t (ok_of (answer s.0) t s.2)

named : (s id : List ℕ) (b : Bool) → is_name s ≡ b → cond b (Some s) None ≡ Some id → IsName id
named s id true e h = let same : s ≡ id = cc in subst IsName same e
named s id false e h = cc

is_named : (t : Tree) (id : List ℕ) → as_name t ≡ Some id → IsName id
is_named t id h = let s = then_some (λ s. cond (is_name s) (Some s) None) (as_text t) id h in named s.0 id (is_name s.0) refl s.2

-- a member is that of the join with this number
pub record IsMemberOf (own : ℕ) (j : Member) : Type 0 where
  pub name : IsName j.id
  pub number : j.number ≡ own
  pub detail : IsDeep j.detail

joined : (number : ℕ) (t : Tree) (j : Member) → IsDeep t → joining number t ≡ Some j → IsMemberOf number j
joined number t j h is =
    let client = then_some _ (find (name_of field.ClientId) t) j is in
    let id = then_some _ (as_name client.0) j client.2 in
    let detail = then_some (λ d. Some (record { id = id.0; detail = d; number = number })) (find (name_of field.Detail) t) j id.2 in
    let made : ◌≡◌ {A = Member} (record { id = id.0; detail = detail.0; number = number }) j = cc in
    subst (IsMemberOf number) made (record { name = is_named client.0 id.0 id.1; number = refl; detail = found (name_of field.Detail) t detail.0 h detail.1 })

pub member_kept : (m : Message) (j : Member) → member_of m ≡ Some j → IsMemberOf m.number j
unfolding member_of
member_kept m j is =
    let said = then_some (joining m.number) (data_of m) j (of_join-some m.kind _ j is) in
    joined m.number said.0 j (data_kept m said.0 said.1) said.2

-- ---- proposals

pub record IsProposalOf (own : ℕ) (p : Proposal) : Type 0 where
  pub number : p.number ≡ own
  pub value : IsDeep p.value

proposed : (number : ℕ) (t : Tree) (p : Proposal) → IsDeep t → proposing number t ≡ Some p → IsProposalOf number p
proposed number t p h is =
    let named = then_some _ (find (name_of field.Key) t) p is in
    let key = then_some _ (as_text named.0) p named.2 in
    let value = then_some (λ v. Some (record { number = number; key = key.0; value = v })) (find (name_of field.Value) t) p key.2 in
    let made : ◌≡◌ {A = Proposal} (record { number = number; key = key.0; value = value.0 }) p = cc in
    subst (IsProposalOf number) made (record { number = refl; value = found (name_of field.Value) t value.0 h value.1 })

pub proposal_kept : (m : Message) (p : Proposal) → IsDeep m.contents → proposal_of m ≡ Some p → IsProposalOf m.number p
unfolding proposal_of
proposal_kept m p h is = proposed m.number (body m.contents) p (body_kept m.contents h) (of_propose-some m.kind _ p is)
