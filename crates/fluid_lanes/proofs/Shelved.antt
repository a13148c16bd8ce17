-- Keepers that are out and come back one after another.
use Rattle.std.proofs.Common.{◌≡◌, ◌⊎◌, inl, inr, ℕ, ◌+◌, ◌-◌, ◌<◌, ◌≤◌, Bool, true, false, cond, List, Option, Some, None, is_some, option_map, bytes_eq, refl, sym, ap, subst, ◌∙◌, arith}
use Rattle.std.specs.Option.{option_or}
use Rattle.std.specs.FinMap.{FinMap, empty, get, insert, len, len-empty, len-remove, get-empty, empty_of_len}
use Rattle.std.proofs.lemmas.Slice.Eq.{bytes_eq-Decides}
use Rattle.fluid_io.specs.Causes.{Rose, one_more}
use Rattle.fluid_table.specs.Table.{Values, byte_order}
use Rattle.fluid_table.proofs.Places.{byte_order_total, get_inserted, get_removed, same_values}
use Rattle.fluid_log.specs.Keeping.{Keeping}
use Rattle.fluid_log.specs.Shelving.{Shelving}
use Rattle.fluid_lane.specs.Standing.{Standing}
use Rattle.fluid_lanes.specs.Opened.{AreShelved}
use Rattle.fluid_lanes.specs.Closing.{kept_under, HeldBehind, HasFailed, IsLeft, AllComeBack, ComesBack, OneComesBack}

-- ---- some have come back, and the others are still out

abbrev pub Keepers : Type 0
Keepers = FinMap byte_order Keeping

-- the keeper under a name is still out, or it is what its lane left
abbrev pub kept_yet : Values Standing → Values Standing → Keepers → List ℕ → Option Keeping
kept_yet lanes rest held name = cond (is_some (get rest name)) (get held name) (kept_under lanes held name)

abbrev pub HeldYet : Values Standing → Values Standing → Option Keepers → Option Keepers → Type 0
HeldYet lanes rest (Some held) (Some back) = (name : List ℕ) → get back name ≡ kept_yet lanes rest held name
HeldYet lanes rest None None = Unit {0}
HeldYet lanes rest old new = ⊥

-- none of those that have come back failed
abbrev pub NoneFailedYet : Values Standing → Values Standing → Shelving → Type 0
NoneFailedYet lanes rest old =
    (name : List ℕ) (lane : Standing) (given : ℕ) → get rest name ≡ None → get lanes name ≡ Some lane → get old.out name ≡ Some given → lane.keeping.faults < one_more given

pub record HasClosed (count : ℕ) (lanes rest : Values Standing) (old new : Shelving) : Type 0 where
  pub part : (name : List ℕ) → (get rest name ≡ get lanes name) ⊎ (get rest name ≡ None)
  pub out : (name : List ℕ) → get new.out name ≡ cond (is_some (get rest name)) (get old.out name) None
  pub shelved : AreShelved rest new
  pub held : HeldYet lanes rest old.held new.held
  pub leaves : (name : List ℕ) (lane : Standing) → get rest name ≡ None → get lanes name ≡ Some lane → IsLeft lane
  pub counted : (name : List ℕ) → get rest name ≡ None → HasFailed lanes old name → Rose old.faults new.faults
  pub covered : (name : List ℕ) → get rest name ≡ None → (failed : HasFailed lanes old name) → failed.lane.keeping.faults ≤ new.faults
  pub quiet : NoneFailedYet lanes rest old → new.faults ≡ old.faults
  pub later : old.faults ≤ new.faults
  pub left : len rest + count ≡ len lanes

-- ---- at first

out_at_first : (out lanes : Bool) (found : Option ℕ) → is_some found ≡ out → out ≡ lanes → found ≡ cond lanes found None
out_at_first out true found is same = refl
out_at_first out false None is same = refl
out_at_first out false (Some given) is same = absurd (some_none (is ∙ same))
  where
    some_none : true ≡ false → ⊥
    some_none same = cc

held_at_first : (lanes : Values Standing) (held : Option Keepers) → HeldYet lanes lanes held held
held_at_first lanes None = tt
held_at_first lanes (Some held) = λ name. under (get lanes name) (get held name)
  where
    under : (lane : Option Standing) (keeper : Option Keeping) → keeper ≡ cond (is_some lane) keeper (option_or (option_map (λ (l : Standing). l.keeping) lane) keeper)
    under None keeper = refl
    under (Some lane) keeper = refl

none_some : {A : Type 0} (a : A) → ◌≡◌ {A = Option A} None (Some a) → ⊥
none_some a same = cc

pub at_first : (lanes : Values Standing) (old : Shelving) → AreShelved lanes old → HasClosed 0 lanes lanes old old
at_first lanes old shelved = record {
  part = λ name. inl refl;
  out = λ name. out_at_first _ (is_some (get lanes name)) (get old.out name) refl (shelved name);
  shelved = shelved;
  held = held_at_first lanes old.held;
  leaves = λ name lane gone there. absurd (none_some lane (sym gone ∙ there));
  counted = λ name gone failed. absurd (none_some failed.lane (sym gone ∙ failed.open_));
  covered = λ name gone failed. absurd (none_some failed.lane (sym gone ∙ failed.open_));
  quiet = λ none. refl;
  later = omega arith;
  left = omega arith;
}

-- ---- one more

some_same : {A : Type 0} (a b : A) → ◌≡◌ {A = Option A} (Some a) (Some b) → a ≡ b
some_same a b same = cc

rose_earlier : (first before now : ℕ) → first ≤ before → Rose before now → Rose first now
rose_earlier first before now le rose = omega (arith, le, rose)

rose_later : (before now last : ℕ) → Rose before now → now ≤ last → Rose before last
rose_later before now last rose le = omega (arith, rose, le)

at_most : (some now last : ℕ) → some ≤ now → now ≤ last → some ≤ last
at_most some now last h k = omega (arith, h, k)

false_true : false ≡ true → ⊥
false_true same = cc

part_more : (b : Bool) (before now lane : Option Standing) → now ≡ cond b None before → (before ≡ lane) ⊎ (before ≡ None) → (now ≡ lane) ⊎ (now ≡ None)
part_more true before now lane is part = inr is
part_more false before now lane is (inl same) = inl (is ∙ same)
part_more false before now lane is (inr none) = inr (is ∙ none)

out_more : (b : Bool) (before now : Option Standing) (out back given : Option ℕ) → now ≡ cond b None before → back ≡ cond b None out
    → out ≡ cond (is_some before) given None → back ≡ cond (is_some now) given None
out_more true before now out back given is came was = came ∙ sym (ap (λ (lane : Option Standing). cond (is_some lane) given None) is)
out_more false before now out back given is came was = came ∙ was ∙ sym (ap (λ (lane : Option Standing). cond (is_some lane) given None) is)

shelved_more : (b : Bool) (before now : Option Standing) (out back : Option ℕ) → now ≡ cond b None before → back ≡ cond b None out
    → is_some out ≡ is_some before → is_some back ≡ is_some now
shelved_more true before now out back is came was = ap is_some came ∙ sym (ap is_some is)
shelved_more false before now out back is came was = ap is_some came ∙ was ∙ sym (ap is_some is)

held_under : (b : Bool) (before now : Option Standing) (own : Keeping) (back held kept : Option Keeping) → now ≡ cond b None before → (b ≡ true → kept ≡ Some own)
    → back ≡ cond (is_some before) held kept → cond b (Some own) back ≡ cond (is_some now) held kept
held_under true before now own back held kept is same was = sym (same refl) ∙ sym (ap (λ (lane : Option Standing). cond (is_some lane) held kept) is)
held_under false before now own back held kept is same was = was ∙ sym (ap (λ (lane : Option Standing). cond (is_some lane) held kept) is)

module _ (count : ℕ) (lanes rest now : Values Standing) (old new last : Shelving) (h : HasClosed count lanes rest old new) (one : ComesBack rest now new last) where
  rest_at : (q : List ℕ) → get now q ≡ cond (bytes_eq q one.name) None (get rest q)
  rest_at q = ap (λ values. get values q) one.rest_is ∙ get_removed rest one.name q

  out_at : (q : List ℕ) → get last.out q ≡ cond (bytes_eq q one.name) None (get new.out q)
  out_at q = ap (λ out. get out q) one.back.out ∙ get_removed new.out one.name q

  -- the lane that was taken out is the one that was open
  own_by : (get rest one.name ≡ get lanes one.name) ⊎ (get rest one.name ≡ None) → get lanes one.name ≡ Some one.lane
  own_by (inl same) = sym same ∙ one.there
  own_by (inr none) = absurd (none_some one.lane (sym none ∙ one.there))

  own : get lanes one.name ≡ Some one.lane
  own = own_by (h.part one.name)

  own_at : (q : List ℕ) → bytes_eq q one.name ≡ true → get lanes q ≡ Some one.lane
  own_at q same = ap (λ name. get lanes name) ((bytes_eq-Decides q one.name).0 same) ∙ own

  held_more : (held back : Option Keepers) → HeldYet lanes rest held back → HeldYet lanes now held (option_map (λ k. insert k one.name one.lane.keeping) back)
  held_more None None was = tt
  held_more None (Some back) was = absurd was
  held_more (Some held) None was = absurd was
  held_more (Some held) (Some back) was = λ q.
      get_inserted back one.name one.lane.keeping q
      ∙ held_under (bytes_eq q one.name) (get rest q) (get now q) one.lane.keeping (get back q) (get held q) (kept_under lanes held q) (rest_at q)
      (λ same. ap (λ (lane : Option Standing). option_or (option_map (λ (l : Standing). l.keeping) lane) (get held q)) (own_at q same)) (was q)

  -- its keeper failed while it was out
  rose_own : (given : ℕ) → get old.out one.name ≡ Some given → Rose given one.lane.keeping.faults → Rose old.faults last.faults
  rose_own given out rose =
      let out_yet = h.out one.name ∙ ap (λ (lane : Option Standing). cond (is_some lane) (get old.out one.name) None) one.there ∙ out in
      rose_earlier old.faults new.faults last.faults h.later ((one.back.counted given out_yet).more rose).0

  counted_by : (q : List ℕ) (b : Bool) → bytes_eq q one.name ≡ b → get now q ≡ None → HasFailed lanes old q → Rose old.faults last.faults
  counted_by q true same gone failed =
      let name = (bytes_eq-Decides q one.name).0 same in
      let lane = some_same failed.lane one.lane (sym failed.open_ ∙ own_at q same) in
      rose_own failed.given (ap (λ k. get old.out k) (sym name) ∙ failed.out) (subst (λ (l : Standing). Rose failed.given l.keeping.faults) lane failed.rose)
  counted_by q false same gone failed =
      let before = sym (rest_at q ∙ ap (λ b. cond b None (get rest q)) same) ∙ gone in
      rose_later old.faults new.faults last.faults (h.counted q before failed) one.back.later

  -- it was given with as many faults as it is noted with
  given_yet : (given : Option ℕ) → get new.out one.name ≡ given → is_some given ≡ true → (n : ℕ) × ((get new.out one.name ≡ Some n) × (get old.out one.name ≡ Some n))
  given_yet None out some = absurd (false_true some)
  given_yet (Some n) out some =
      (n, (out, sym (h.out one.name ∙ ap (λ (lane : Option Standing). cond (is_some lane) (get old.out one.name) None) one.there) ∙ out))

  given_own : (n : ℕ) × ((get new.out one.name ≡ Some n) × (get old.out one.name ≡ Some n))
  given_own = given_yet (get new.out one.name) refl (h.shelved one.name ∙ ap is_some one.there)

  gone_yet : (b : Bool) (before : Option Standing) → before ≡ None → cond b None before ≡ None
  gone_yet true before none = refl
  gone_yet false before none = none

  -- whose lane was gone before is gone now
  still_gone : (q : List ℕ) → get rest q ≡ None → get now q ≡ None
  still_gone q gone = rest_at q ∙ gone_yet (bytes_eq q one.name) (get rest q) gone

  -- and the one that came back
  own_gone : get now one.name ≡ None
  own_gone = rest_at one.name ∙ ap (λ b. cond b None (get rest one.name)) ((bytes_eq-Decides one.name one.name).1 refl)

  quiet_more : NoneFailedYet lanes now old → last.faults ≡ old.faults
  quiet_more none =
      (one.back.counted given_own.0 given_own.1.0).no_more (none one.name one.lane given_own.0 own_gone own given_own.1.1)
      ∙ h.quiet (λ name lane given gone there out. none name lane given (still_gone name gone) there out)

  leaves_by : (q : List ℕ) (b : Bool) → bytes_eq q one.name ≡ b → get now q ≡ None → (lane : Standing) → get lanes q ≡ Some lane → IsLeft lane
  leaves_by q true same gone lane there = subst IsLeft (some_same one.lane lane (sym (own_at q same) ∙ there)) one.left
  leaves_by q false same gone lane there = h.leaves q lane (sym (rest_at q ∙ ap (λ b. cond b None (get rest q)) same) ∙ gone) there

  covered_by : (q : List ℕ) (b : Bool) → bytes_eq q one.name ≡ b → get now q ≡ None → (failed : HasFailed lanes old q) → failed.lane.keeping.faults ≤ last.faults
  covered_by q true same gone failed =
      let name = (bytes_eq-Decides q one.name).0 same in
      let lane = some_same failed.lane one.lane (sym failed.open_ ∙ own_at q same) in
      let out = sym given_own.1.1 ∙ ap (λ k. get old.out k) (sym name) ∙ failed.out in
      let given : given_own.0 ≡ failed.given = some_same given_own.0 failed.given out in
      let rose = subst (λ (l : Standing). Rose failed.given l.keeping.faults) lane failed.rose in
      let more = ((one.back.counted given_own.0 given_own.1.0).more (subst (λ n. Rose n one.lane.keeping.faults) (sym given) rose)).1 in
      subst (λ (l : Standing). l.keeping.faults ≤ last.faults) (sym lane) more
  covered_by q false same gone failed =
      let before = sym (rest_at q ∙ ap (λ b. cond b None (get rest q)) same) ∙ gone in
      at_most failed.lane.keeping.faults new.faults last.faults (h.covered q before failed) one.back.later

  len_less : len now ≡ len rest - 1
  len_less =
      ap len one.rest_is ∙ len-remove byte_order_total rest one.name
      ∙ ap (λ (lane : Option Standing). cond (is_some lane) (len rest - 1) (len rest)) one.there

  comes_back : count < len lanes → HasClosed (count + 1) lanes now old last
  comes_back lt = record {
    part = λ q. part_more (bytes_eq q one.name) _ _ _ (rest_at q) (h.part q);
    out = λ q. out_more (bytes_eq q one.name) (get rest q) (get now q) (get new.out q) (get last.out q) (get old.out q) (rest_at q) (out_at q) (h.out q);
    shelved = λ q. shelved_more (bytes_eq q one.name) (get rest q) (get now q) (get new.out q) (get last.out q) (rest_at q) (out_at q) (h.shelved q);
    held = subst (HeldYet lanes now old.held) (sym one.back.held) (held_more old.held new.held h.held);
    leaves = λ q lane gone there. leaves_by q _ refl gone lane there;
    counted = λ q gone failed. counted_by q _ refl gone failed;
    covered = λ q gone failed. covered_by q _ refl gone failed;
    quiet = quiet_more;
    later = omega (arith, h.later, one.back.later);
    left = omega (arith, len_less, h.left, lt);
  }

empty_len : (lanes : Values Standing) → lanes ≡ empty → len lanes ≡ 0
empty_len lanes none = ap len none ∙ len-empty byte_order Standing

pub one_back : (count : ℕ) (lanes rest now : Values Standing) (old new last : Shelving) → HasClosed count lanes rest old new → OneComesBack rest now new last
    → count < len lanes → HasClosed (count + 1) lanes now old last
one_back count lanes rest now old new last h (inl none) lt = absurd (omega (arith, empty_len rest none.0, h.left, lt))
one_back count lanes rest now old new last h (inr one) lt = comes_back count lanes rest now old new last h one lt

-- ---- at last

module _ (lanes rest : Values Standing) (old new : Shelving) where
  held_at_last : (held back : Option Keepers) → ((q : List ℕ) → get rest q ≡ None) → HeldYet lanes rest held back → HeldBehind lanes held back
  held_at_last None None gone was = tt
  held_at_last None (Some back) gone was = absurd was
  held_at_last (Some held) None gone was = absurd was
  held_at_last (Some held) (Some back) gone was = λ q. was q ∙ ap (λ (lane : Option Standing). cond (is_some lane) (get held q) (kept_under lanes held q)) (gone q)

  pub at_last : (count : ℕ) → HasClosed count lanes rest old new → len lanes ≤ count → AllComeBack lanes old new
  at_last count h le =
      let none = empty_of_len rest (omega (arith, h.left, le)) in
      let gone : (q : List ℕ) → get rest q ≡ None = λ q. ap (λ values. get values q) none ∙ get-empty byte_order q in
      record {
        whole = same_values new.out empty (λ q. h.out q ∙ ap (λ (lane : Option Standing). cond (is_some lane) (get old.out q) None) (gone q) ∙ sym (get-empty byte_order q));
        held = held_at_last old.held new.held gone h.held;
        left = λ q lane there. h.leaves q lane (gone q) there;
        counted = λ q failed. h.counted q (gone q) failed;
        covered = λ q failed. h.covered q (gone q) failed;
        quiet = λ none. h.quiet (λ q lane given gone_q there out. none q lane given there out);
        later = h.later;
      }
