-- Where each summaryAck acknowledges, the acknowledgements are the summaryAcks.
use Rattle.std.proofs.Common.{◌≡◌, ℕ, Bool, true, false, List, [], ◌∷◌, ◌++◌, map, Option, Some, None, refl, sym, ◌∙◌, ap}
use Rattle.std.specs.Prelude.{filter, find, option_map, option_to_list, is_some, ◌==◌}
use Rattle.std.specs.List.{last_or}
use Rattle.std.proofs.lemmas.List.{map-append}
use Rattle.std.proofs.lemmas.List.Elements.{filter-append}
use Rattle.fluid_types.specs.declared.messages.Message.{Message}
use Rattle.fluid_rules.specs.Scribe.{is_ack, handling, answered_by, unanswered, acknowledged, ack_of, acks_behind, acks}
use Rattle.fluid_rules.specs.ScribeLaws.{AreAcknowledging, summary_acks, AcksAreSummaryAcks}

-- an acknowledgement has the handle that the summaryAck says
handle_found : (before : List Message) (m : Message) (handle : List ℕ) (number : ℕ) (found : Option Message) →
    handling m.contents ≡ Some handle → answered_by m ≡ Some number → find (λ s. s.number == number) (unanswered before) ≡ found →
    is_some (acknowledged before m) ≡ true → map (λ ack. Some ack.handle) (option_to_list (acknowledged before m)) ≡ Some handle ∷ []
handle_found before m handle number None said named is acknowledges = absurd (let no : false ≡ true = rw (said, named, is) at acknowledges in cc)
handle_found before m handle number (Some s) said named is acknowledges = rw (said, named, is) refl

number_found : (before : List Message) (m : Message) (handle : List ℕ) (number : Option ℕ) → handling m.contents ≡ Some handle → answered_by m ≡ number →
    is_some (acknowledged before m) ≡ true → map (λ ack. Some ack.handle) (option_to_list (acknowledged before m)) ≡ Some handle ∷ []
number_found before m handle None said named acknowledges = absurd (let no : false ≡ true = rw (said, named) at acknowledges in cc)
number_found before m handle (Some number) said named acknowledges =
    handle_found before m handle number (find (λ s. s.number == number) (unanswered before)) said named refl acknowledges

said_by : (before : List Message) (m : Message) (handle : Option (List ℕ)) → handling m.contents ≡ handle →
    is_some (acknowledged before m) ≡ true → map (λ ack. Some ack.handle) (option_to_list (acknowledged before m)) ≡ handle ∷ []
said_by before m None said acknowledges = absurd (let no : false ≡ true = rw said at acknowledges in cc)
said_by before m (Some handle) said acknowledges = number_found before m handle (answered_by m) said refl acknowledges

one_message : (ack : Bool) (before : List Message) (m : Message) → is_ack m.kind ≡ ack → (is_ack m.kind ≡ true → is_some (acknowledged before m) ≡ true) →
    map (λ ack. Some ack.handle) (option_to_list (ack_of before m)) ≡ map (λ m. handling m.contents) (filter (λ m. is_ack m.kind) (m ∷ []))
unfolding ack_of
one_message true before m is acknowledges = rw is (said_by before m (handling m.contents) refl (acknowledges is))
one_message false before m is acknowledges = rw is refl

each_behind : (before order : List Message) → AreAcknowledging before order →
    map (λ ack. Some ack.handle) (acks_behind before order) ≡ map (λ m. handling m.contents) (filter (λ m. is_ack m.kind) order)
unfolding acks_behind
each_behind before [] h = refl
each_behind before (m ∷ ms) h =
    map-append (λ ack. Some ack.handle) (option_to_list (ack_of before m)) (acks_behind (before ++ m ∷ []) ms)
    ∙ ap (λ first. first ++ map (λ ack. Some ack.handle) (acks_behind (before ++ m ∷ []) ms)) (one_message (is_ack m.kind) before m refl h.0)
    ∙ ap (λ rest. map (λ m. handling m.contents) (filter (λ m. is_ack m.kind) (m ∷ [])) ++ rest) (each_behind (before ++ m ∷ []) ms h.1)
    ∙ sym (map-append (λ m. handling m.contents) (filter (λ m. is_ack m.kind) (m ∷ [])) (filter (λ m. is_ack m.kind) ms))
    ∙ ap (map (λ m. handling m.contents)) (sym (filter-append (λ m. is_ack m.kind) (m ∷ []) ms))

last-map : {A B : Type 0} (f : A → B) (o : Option A) (xs : List A) → last_or (option_map f o) (map f xs) ≡ option_map f (last_or o xs)
last-map f o [] = refl
last-map f o (x ∷ xs) = last-map f (Some x) xs

pub acks-are_summary_acks : AcksAreSummaryAcks
unfolding acks
acks-are_summary_acks order h =
    let each = each_behind [] order h in
    record {
      each = each;
      last =
          sym (last-map (λ ack. Some ack.handle) None (acks_behind [] order))
          ∙ ap (last_or None) each
          ∙ last-map (λ m. handling m.contents) None (summary_acks order);
    }
