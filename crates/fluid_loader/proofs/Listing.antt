-- A link over a list of messages: what its calls do.
use Rattle.std.proofs.Common.{◌≡◌, inl, ℕ, zero, suc, ◌+◌, ◌<◌, ◌≤◌, List, [], ◌∷◌, ◌++◌, length, drop, Option, Some, subst, Result, Ok, Err, IfOk, get_or, refl, sym, ap, arith, append-nil, add-one}
use Rattle.fluid_types.specs.declared.entries.Raw.{Raw}
use Rattle.fluid_types.specs.declared.messages.Message.{Message}
use Rattle.fluid_types.specs.declared.nacks.Nack.{Nack}
use Rattle.fluid_types.specs.declared.verdicts.Verdict.TheVariants as verdict
use Rattle.fluid_tree.specs.Summary.{Summary, children}
use Rattle.fluid_store.specs.Held.{Held}
use Rattle.fluid_store.specs.Parts.{objects_over}
use Rattle.fluid_store.specs.declared.fault.StoreFault.{StoreFault}
use Rattle.fluid_store.specs.declared.listing.StoredObject.{StoredObject}
use Rattle.fluid_loader.specs.Link.{Linked, Uploads, Enters, PutsSome, count_all, one_if_handle}
use Rattle.fluid_loader.specs.Listed.{listed, IsCounted, PutInto}
use Rattle.fluid_loader.specs.declared.link.LinkFault.{LinkFault}
use Rattle.fluid_loader.specs.declared.link.LinkFault.TheVariants.{Failed, Clash, NoMemory}
use Rattle.fluid_io.specs.Causes.{Rose}
use Rattle.fluid_types.specs.declared.entries.Submission.{Submission}
use Rattle.fluid_loader.specs.declared.link.Given.TheVariants.{Taken, Nacked}

-- ---- a submission leaves the messages

same_document : (order : List Message) (held : Held) → listed order held ≡ listed (order ++ []) held
same_document order held = ap (λ o. listed o held) (sym (append-nil order))

pub nacked_enters : (raw : Raw) (nack : Nack) (order : List Message) (held : Held) → Enters raw (Nacked nack) (listed order held) (listed order held)
nacked_enters raw nack order held = inl (tt, (verdict.Nacked nack, (refl, same_document order held)))

-- ---- handles

handle_at : (n : ℕ) (nodes : List (List ℕ × Summary)) (c : List ℕ × Summary) → n < length nodes → c ≡ get_or nodes n c → count_all (children (drop n nodes)) ≡ one_if_handle c.1 + count_all (children (drop (suc n) nodes))
handle_at n [] c lt is = absurd (omega (arith, lt))
handle_at zero (x ∷ xs) c lt is = ap (λ (y : List ℕ × Summary). one_if_handle y.1 + count_all (children xs)) (sym is)
handle_at (suc n) (x ∷ xs) c lt is = handle_at n xs c (omega (arith, lt)) is

none_left : (n : ℕ) (nodes : List (List ℕ × Summary)) → length nodes ≤ n → count_all (children (drop n nodes)) ≡ 0
none_left zero [] le = refl
none_left (suc n) [] le = refl
none_left zero (x ∷ xs) le = absurd (omega (arith, le))
none_left (suc n) (x ∷ xs) le = none_left n xs (omega (arith, le))

pub handles_go_on : (n : ℕ) (nodes : List (List ℕ × Summary)) (c : List ℕ × Summary) (count : ℕ) → n < length nodes → c ≡ get_or nodes n c
    → count + count_all (children (drop n nodes)) ≡ count_all (children nodes)
    → (count + one_if_handle c.1) + count_all (children (drop (n + 1) nodes)) ≡ count_all (children nodes)
handles_go_on n nodes c count lt is so =
    let next : count_all (children (drop (n + 1) nodes)) ≡ count_all (children (drop (suc n) nodes)) = ap (λ k. count_all (children (drop k nodes))) (add-one n) in
    omega (arith, so, next, handle_at n nodes c lt is)

pub handles_are_all : (n : ℕ) (nodes : List (List ℕ × Summary)) (count : ℕ) → length nodes ≤ n → count + count_all (children (drop n nodes)) ≡ count_all (children nodes) → count ≡ count_all (children nodes)
handles_are_all n nodes count le so = omega (arith, so, none_left n nodes le)

-- ---- an upload that puts nothing

none_first : (r : Result (List ℕ × List StoredObject) StoreFault) → IfOk r (λ tree. (behind : List StoredObject) × (tree.1 ≡ [] ++ behind))
none_first (Ok tree) = (tree.1, refl)
none_first (Err fault) = tt

pub none_put : (node : Summary) (base : Option (List ℕ)) (order : List Message) (held : Held) → PutsSome node base (listed order held) (listed order held)
none_put node base order held = record { prefix = []; are_first = none_first (objects_over held base node); held = refl; kept = λ id bytes found. found }

-- ---- an upload that fails

later_rose : (a b c : ℕ) → a ≤ b → Rose b c → Rose a c
later_rose a b c le rose = omega (arith, le, rose)

both_later : (a b c : ℕ) → a ≤ b → b ≤ c → a ≤ c
both_later a b c le more = omega (arith, le, more)

same_later : (a b c : ℕ) → a ≤ b → c ≡ b → a ≤ c
same_later a b c le is = omega (arith, le, is)

module _ (node : Summary) (base : Option (List ℕ)) (client : List ℕ) (order : List Message) (messages : List ℕ) (objects : List (List ℕ)) (handles : List ℕ) (taken : List Submission) where
  abbrev seen : Held → ℕ → ℕ → Linked
  seen held faults refusals = record {
    client = client;
    moment = 0;
    told = Some (listed order held);
    faults = faults;
    refusals = refusals;
    bad_trees = 0;
    messages = messages;
    objects = objects;
    handles = handles;
    taken = taken;
  }

  fails_by : (fault : LinkFault) (was is : Held) (first mid faults old refusals : ℕ) → first ≤ mid → IsCounted fault mid faults old refusals → PutInto node base order was is (Err fault)
      → Uploads node base (seen was first old) (seen is faults refusals) (Err fault)
  fails_by Failed was is first mid faults old refusals le counted did = record {
    changes = record { client = refl; moment = refl; faults = both_later first mid faults le counted.1.0; refusals = omega (arith, counted.1.1); messages = refl; objects = refl };
    taken = refl;
    trees = inl refl;
    says = (later_rose first mid faults le counted.0, did);
  }
  fails_by (Clash id kept bytes) was is first mid faults old refusals le counted did = record {
    changes = record {
      client = refl;
      moment = refl;
      faults = same_later first mid faults le counted.1.1;
      refusals = counted.1.0;
      messages = refl;
      objects = refl;
    };
    taken = refl;
    trees = refl;
    says = (counted.0, did);
  }
  fails_by NoMemory was is first mid faults old refusals le counted did = record {
    changes = record { client = refl; moment = refl; faults = same_later first mid faults le counted.0; refusals = omega (arith, counted.1); messages = refl; objects = refl };
    taken = refl;
    trees = refl;
    says = did;
  }

  pub upload_fails : (fault answer : LinkFault) (was is : Held) (first mid faults old refusals : ℕ) → answer ≡ fault → first ≤ mid → IsCounted fault mid faults old refusals
      → PutInto node base order was is (Err fault) → Uploads node base (seen was first old) (seen is faults refusals) (Err answer)
  upload_fails fault answer was is first mid faults old refusals same le counted did =
      subst (λ f. Uploads node base (seen was first old) (seen is faults refusals) (Err f)) (sym same) (fails_by fault was is first mid faults old refusals le counted did)
