-- What is sent one reply after another.
use Rattle.std.proofs.Common.{◌≡◌, ℕ, ◌+◌, ◌<◌, ◌≤◌, List, [], ◌∷◌, ◌++◌, length, take, drop, get_or, Option, Some, None, Ok, Err, refl, sym, ap, subst, ◌∙◌, arith, append_assoc, append-nil}
use Rattle.std.proofs.lemmas.List.{map-append, take_more, take_all, take-append-drop}
use Rattle.std.specs.Option.{option_map}
use Rattle.fluid_io.specs.Causes.{Rose}
use Rattle.fluid_codec.specs.declared.replies.Reply.{Reply}
use Rattle.fluid_codec.specs.Replies.{reply_printed}
use Rattle.fluid_lines.specs.declared.wire.WireText.{WireText}
use Rattle.fluid_lines.specs.declared.wire.WireText.TheVariants.{In, Out}
use Rattle.fluid_lines.specs.declared.wire.WireFault.{WireFault}
use Rattle.fluid_lines.specs.declared.wire.WireFault.TheVariants.{Failed, NoMemory}
use Rattle.fluid_lines.specs.Wires.{Wiring}
use Rattle.fluid_session.specs.Sending.{Passes, IsWireCause, SendsOne, SendsAll, out_texts, ins_of}

-- ---- histories

nothing_more : (h : Option (List WireText)) → h ≡ option_map (λ history. history ++ []) h
nothing_more None = refl
nothing_more (Some history) = ap Some (sym (append-nil history))

more_of_more : (a b : List WireText) (h : Option (List WireText))
    → option_map (λ history. history ++ b) (option_map (λ history. history ++ a) h) ≡ option_map (λ history. history ++ (a ++ b)) h
more_of_more a b None = refl
more_of_more a b (Some history) = ap Some (append_assoc history a b)

-- ---- texts to come

abbrev Coming : Type 0
Coming = Option (List (List ℕ))

pub none_taken : (t : Coming) → t ≡ option_map (λ more. [] ++ more) t
none_taken None = refl
none_taken (Some texts) = refl

ins-append : (a b : List WireText) → ins_of (a ++ b) ≡ ins_of a ++ ins_of b
ins-append [] b = refl
ins-append (In text ∷ a) b = ap (λ l. text ∷ l) (ins-append a b)
ins-append (Out text ∷ a) b = ins-append a b

taken_both : (a b : List (List ℕ)) (t : Coming) → option_map (λ more. a ++ more) (option_map (λ more. b ++ more) t) ≡ option_map (λ more. (a ++ b) ++ more) t
taken_both a b None = refl
taken_both a b (Some texts) = ap Some (sym (append_assoc a b texts))

taken_then : (a b : List WireText) (old mid new : Coming) → old ≡ option_map (λ more. ins_of a ++ more) mid → mid ≡ option_map (λ more. ins_of b ++ more) new
    → old ≡ option_map (λ more. ins_of (a ++ b) ++ more) new
taken_then a b old mid new first second =
    first ∙ ap (option_map (λ more. ins_of a ++ more)) second ∙ taken_both (ins_of a) (ins_of b) new ∙ ap (λ l. option_map (λ more. l ++ more) new) (sym (ins-append a b))

-- ---- what goes by

-- nothing went by
pub passes_nothing : (w : Wiring) → Passes [] w w
passes_nothing w = record { adds = nothing_more w.history; taken = none_taken w.texts; quiets = omega arith; faults = omega arith }

-- history and texts stay, and so more quiet answers and faults at most were counted
pub passes_by : (old new : Wiring) → new.history ≡ old.history → new.texts ≡ old.texts → old.quiets ≤ new.quiets → old.faults ≤ new.faults → Passes [] old new
passes_by old new same texts quiets later = record { adds = same ∙ nothing_more old.history; taken = sym texts ∙ none_taken new.texts; quiets = quiets; faults = later }

pub passes_then : (a b : List WireText) (old mid new : Wiring) → Passes a old mid → Passes b mid new → Passes (a ++ b) old new
passes_then a b old mid new first second = record {
  adds = second.adds ∙ ap (option_map (λ history. history ++ b)) first.adds ∙ more_of_more a b old.history;
  taken = taken_then a b old.texts mid.texts new.texts first.taken second.taken;
  quiets = let one = first.quiets in let two = second.quiets in omega arith;
  faults = let one = first.faults in let two = second.faults in omega arith;
}

-- ---- causes

pub rose_later : (a b c : ℕ) → a ≤ b → Rose b c → Rose a c
rose_later a b c h r = grind arith

pub cause_later : (old mid new : Wiring) (fault : WireFault) → old.faults ≤ mid.faults → IsWireCause mid new fault → IsWireCause old new fault
cause_later old mid new Failed h c = rose_later old.faults mid.faults new.faults h c
cause_later old mid new NoMemory h c = tt

-- ---- one reply after another

pub sends_more : (replies : List Reply) (i : ℕ) (reply : Reply) (old mid new : Wiring) → i < length replies → reply ≡ get_or replies i reply
    → Passes (out_texts (take i replies)) old mid → Passes (out_texts (reply ∷ [])) mid new → Passes (out_texts (take (i + 1) replies)) old new
sends_more replies i reply old mid new below is first second =
    let more : take i replies ++ reply ∷ [] ≡ take (i + 1) replies = sym (take_more replies i reply below ∙ ap (λ r. take i replies ++ r ∷ []) (sym is)) in
    subst (λ l. Passes (out_texts l) old new) more
    (subst (λ l. Passes l old new) (sym (map-append (λ r. Out (reply_printed r)) (take i replies) (reply ∷ []))) (passes_then _ _ old mid new first second))

pub sends_prefix : (replies : List Reply) (i : ℕ) (reply : Reply) (old mid new : Wiring) (fault : WireFault)
    → Passes (out_texts (take i replies)) old mid → SendsOne mid new reply (Err fault) → SendsAll old new replies (Err fault)
sends_prefix replies i reply old mid new fault first one = record {
  sent = take i replies;
  is_sent = (drop i replies, sym (take-append-drop i replies));
  passes = subst (λ l. Passes l old new) (append-nil _) (passes_then _ _ old mid new first one.passes);
  cause = cause_later old mid new fault first.faults one.cause;
}

pub sends_all : (replies : List Reply) (i : ℕ) (old new : Wiring) → Passes (out_texts (take i replies)) old new → length replies ≤ i → SendsAll old new replies (Ok tt)
sends_all replies i old new passed all = record {
  sent = replies;
  is_sent = refl;
  passes = subst (λ l. Passes (out_texts l) old new) (take_all i replies all) passed;
  cause = tt;
}
