-- What is kept of a roamer's outbox from call to call.
use Rattle.std.proofs.Common.{◌≡◌, ℕ, Bool, true, false, if◌then◌else◌, List, [], ◌∷◌, ◌++◌, map, drop, Option, Some, None, refl, sym, ap, ◌∙◌}
use Rattle.std.specs.List.{AllByRecursion}
use Rattle.std.proofs.lemmas.List.{map-append}
use Rattle.fluid_json.specs.Tree.{Tree}
use Rattle.fluid_types.specs.declared.messages.Message.{Message}
use Rattle.fluid_edits.specs.declared.edit.Edit.{Edit}
use Rattle.fluid_edits.specs.Forms.{contents_of}
use Rattle.fluid_outbox.specs.Past.{acknowledged, edits, op_of}
use Rattle.fluid_outbox.specs.Kept.{AnOutbox, Stands, id_of, with_edit, with_id, with_sent, without_id, after_lost, any_takes, after_op, after_heard}
use Rattle.fluid_outbox.specs.declared.line.Line.{Line}
use Rattle.fluid_containers.specs.Stepping.{IsShort}
use Rattle.fluid_roamers.specs.Taking.{IsSendable}

pub kept_none : (o : AnOutbox) → Stands o [] → IsSendable o
unfolding edits acknowledged
kept_none o is = record { said = []; are = is.pending; short = tt }

-- calls by which nothing was pushed and nothing acknowledged
kept_by : (old new : AnOutbox) → IsSendable old → new.pending ≡ old.pending → IsSendable new
kept_by old new kept same = record { said = kept.said; are = same ∙ kept.are; short = kept.short }

-- ---- lost

lost_pending : (o : AnOutbox) (line : Option Line) → (without_id o line).pending ≡ o.pending
lost_pending o None = refl
lost_pending o (Some line) = refl

pub kept_lost : (old new : AnOutbox) → IsSendable old → new ≡ after_lost old → IsSendable new
kept_lost old new kept is = kept_by old new kept (ap (λ (o : AnOutbox). o.pending) is ∙ lost_pending old old.current)

lost_none : (o : AnOutbox) (line : Option Line) → o.current ≡ line → id_of (without_id o line).current ≡ None
lost_none o None is = ap id_of is
lost_none o (Some line) is = refl

-- no id is current then
pub none_then : (old new : AnOutbox) → new ≡ after_lost old → id_of new.current ≡ None
none_then old new is = ap (λ (o : AnOutbox). id_of o.current) is ∙ lost_none old old.current refl

-- ---- a new client, and what is sent for it

pub kept_joined : (old new : AnOutbox) (id : List ℕ) → IsSendable old → new ≡ with_id old id → IsSendable new
kept_joined old new id kept is = kept_by old new kept (ap (λ (o : AnOutbox). o.pending) is)

sent_pending : (o : AnOutbox) (b : Bool) → (if b then with_sent o else o).pending ≡ o.pending
sent_pending o true = refl
sent_pending o false = refl

pub kept_sent : (old new : AnOutbox) (b : Bool) → IsSendable old → new ≡ (if b then with_sent old else old) → IsSendable new
kept_sent old new b kept is = kept_by old new kept (ap (λ (o : AnOutbox). o.pending) is ∙ sent_pending old b)

-- ---- an edit

each_more : {X : Type 0} (P : X → Type 0) (xs : List X) (x : X) → AllByRecursion P xs → P x → AllByRecursion P (xs ++ x ∷ [])
each_more P [] x each is = (is, tt)
each_more P (y ∷ ys) x each is = (each.0, each_more P ys x each.1 is)

pub kept_pushed : (old new : AnOutbox) (edit : Edit) (contents : Tree) → IsSendable old → IsShort edit → contents ≡ contents_of edit → new ≡ with_edit old contents → IsSendable new
kept_pushed old new edit contents kept short same is = record {
  said = kept.said ++ edit ∷ [];
  are =
      ap (λ (o : AnOutbox). o.pending) is ∙ ap (λ es. es ++ contents ∷ []) kept.are ∙ ap (λ c. map contents_of kept.said ++ c ∷ []) same
      ∙ sym (map-append contents_of kept.said (edit ∷ []));
  short = each_more IsShort kept.said edit kept.short short;
}

-- ---- a message

map_drop : (es : List Edit) → drop 1 (map contents_of es) ≡ map contents_of (drop 1 es)
map_drop [] = refl
map_drop (e ∷ es) = refl

each_drop : (es : List Edit) → AllByRecursion IsShort es → AllByRecursion IsShort (drop 1 es)
each_drop [] each = tt
each_drop (e ∷ es) each = each.1

-- the oldest edit goes
kept_dropped : (old new : AnOutbox) → IsSendable old → new.pending ≡ drop 1 old.pending → IsSendable new
kept_dropped old new kept is = record { said = drop 1 kept.said; are = is ∙ ap (drop 1) kept.are ∙ map_drop kept.said; short = each_drop kept.said kept.short }

kept_op : (old new : AnOutbox) (op : Option (List ℕ × ℕ)) → IsSendable old → new.pending ≡ (after_op old op).pending → IsSendable new
kept_op old new None kept is = kept_by old new kept is
kept_op old new (Some op) kept is = by (any_takes op old.awaited) refl
  where
    under : (b : Bool) → any_takes op old.current ≡ b → any_takes op old.awaited ≡ false → IsSendable new
    under true current awaited = kept_dropped old new kept (is ∙ rw (awaited, current) refl)
    under false current awaited = kept_by old new kept (is ∙ rw (awaited, current) refl)

    by : (b : Bool) → any_takes op old.awaited ≡ b → IsSendable new
    by true awaited = kept_dropped old new kept (is ∙ rw awaited refl)
    by false awaited = under (any_takes op old.current) refl awaited

pub kept_heard : (old new : AnOutbox) (m : Message) → IsSendable old → new ≡ after_heard old m → IsSendable new
kept_heard old new m kept is = kept_op old new (op_of m) kept (ap (λ (o : AnOutbox). o.pending) is)
