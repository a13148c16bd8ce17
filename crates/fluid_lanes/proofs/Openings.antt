-- Which keepers are out while documents are opened, used and closed.
use Rattle.std.proofs.Common.{◌≡◌, ℕ, zero, suc, ◌+◌, ◌-◌, ◌<◌, ◌≤◌, Bool, true, false, cond, List, [], ◌∷◌, ◌++◌, length, map, drop, Option, Some, None, is_some, Ok, append-nil, bytes_eq, refl, sym, ap, subst, ◌∙◌, arith}
use Rattle.std.specs.Prelude.{IsSome}
use Rattle.std.specs.FinMap.{FinMap, empty, get, insert, remove, len, get-empty, len-empty, len-insert, len-remove}
use Rattle.std.proofs.lemmas.Slice.Eq.{bytes_eq-Decides}
use Rattle.fluid_table.specs.Table.{Values, byte_order}
use Rattle.fluid_table.specs.Keyed.{pairs_of}
use Rattle.fluid_table.proofs.Places.{byte_order_total, get_inserted, get_removed, get_own, same_values}
use Rattle.fluid_log.specs.Shelving.{Shelving, AreWhole}
use Rattle.fluid_lane.specs.Standing.{Standing}
use Rattle.fluid_opening.specs.declared.opening.TheConstants.{MOST_DOCUMENTS}
use Rattle.fluid_lanes.specs.Rows.{name_of, value_of}
use Rattle.fluid_lanes.specs.Opened.{Opened, AreShelved}
use Rattle.fluid_lanes.specs.Using.{Uses, UsesBy, OpensNew, Ends}

-- nothing is there
pub none_of : {A : Type 0} (o : Option A) → is_some o ≡ false → o ≡ None
none_of None is = refl
none_of (Some a) is = absurd (true_false is)
  where
    true_false : true ≡ false → ⊥
    true_false same = cc

as_it_was : {V : Type 0} (b : Bool) (found : Option V) → (b ≡ true → found ≡ None) → cond b None found ≡ found
as_it_was true found none = sym (none refl)
as_it_was false found none = refl

pub remove_absent : {V : Type 0} (m : FinMap byte_order V) (k : List ℕ) → get m k ≡ None → remove m k ≡ m
remove_absent m k none =
    same_values (remove m k) m (λ q. get_removed m k q ∙ as_it_was (bytes_eq q k) (get m q) (λ same. ap (get m) ((bytes_eq-Decides q k).0 same) ∙ none))

both_in : (b : Bool) (out : Option ℕ) (lane : Option Standing) (given : ℕ) (own : Standing) → is_some out ≡ is_some lane → is_some (cond b (Some given) out) ≡ is_some (cond b (Some own) lane)
both_in true out lane given own same = refl
both_in false out lane given own same = same

both_gone : (b : Bool) (out : Option ℕ) (lane : Option Standing) → is_some out ≡ is_some lane → is_some (cond b None out) ≡ is_some (cond b None lane)
both_gone true out lane same = refl
both_gone false out lane same = same

module _ (lanes now : Values Standing) (old new : Shelving) (name : List ℕ) (shelved : AreShelved lanes old) where
  -- a keeper was given, and its lane is open
  pub opened_out : (lane : Standing) (given : ℕ) → now ≡ insert lanes name lane → new.out ≡ insert old.out name given → AreShelved now new
  opened_out lane given lanes_are out_is = λ q.
      ap is_some (ap (λ m. get m q) out_is ∙ get_inserted old.out name given q)
      ∙ both_in (bytes_eq q name) (get old.out q) (get lanes q) given lane (shelved q)
      ∙ sym (ap is_some (ap (λ m. get m q) lanes_are ∙ get_inserted lanes name lane q))

  -- a lane was closed, and its keeper came back
  pub ended_out : now ≡ remove lanes name → new.out ≡ remove old.out name → AreShelved now new
  ended_out lanes_are out_is = λ q.
      ap is_some (ap (λ m. get m q) out_is ∙ get_removed old.out name q)
      ∙ both_gone (bytes_eq q name) (get old.out q) (get lanes q) (shelved q)
      ∙ sym (ap is_some (ap (λ m. get m q) lanes_are ∙ get_removed lanes name q))

-- an open lane may be left as it will
pub lent_out : (lanes : Values Standing) (old : Shelving) (name : List ℕ) (lane : Standing) → AreShelved lanes old → IsSome (get lanes name) → AreShelved (insert lanes name lane) old
lent_out lanes old name lane shelved there = λ q. shelved q ∙ left q (bytes_eq q name) refl ∙ sym (ap is_some (get_inserted lanes name lane q))
  where
    left : (q : List ℕ) (b : Bool) → bytes_eq q name ≡ b → is_some (get lanes q) ≡ is_some (cond b (Some lane) (get lanes q))
    left q true same = ap (λ n. is_some (get lanes n)) ((bytes_eq-Decides q name).0 same) ∙ there
    left q false same = refl

-- the names of rows are those of their pairs
pub names_of : (rows : List (List ℕ × Standing)) → map (λ e. e.0) (pairs_of name_of value_of rows) ≡ map name_of rows
names_of [] = refl
names_of (row ∷ rows) = ap (λ rest. row.0 ∷ rest) (names_of rows)

drop_all : {A : Type 0} (xs : List A) (i : ℕ) → length xs ≤ i → drop i xs ≡ []
drop_all [] zero le = refl
drop_all [] (suc i) le = refl
drop_all (x ∷ xs) zero le = absurd (omega (arith, le))
drop_all (x ∷ xs) (suc i) le = drop_all xs i (omega (arith, le))

pub names_done : (names : List (List ℕ)) (rows : List (List ℕ × Standing)) (i : ℕ) (es : List (List ℕ × Standing)) → names ++ map name_of (drop i rows) ≡ map name_of rows → length rows ≤ i
    → pairs_of name_of value_of rows ≡ es → names ≡ map (λ e. e.0) es
names_done names rows i es done le are =
    sym (append-nil names) ∙ ap (λ rest. names ++ map name_of rest) (sym (drop_all rows i le)) ∙ done ∙ sym (names_of rows) ∙ ap (map (λ e. e.0)) are

-- nothing is open, and no keeper is out
pub nothing_out : (lanes : Values Standing) (shelving : Shelving) → lanes ≡ empty → AreWhole shelving → AreShelved lanes shelving
nothing_out lanes shelving none whole = λ q.
    ap (λ out. is_some (get out q)) whole ∙ ap is_some (get-empty byte_order q) ∙ sym (ap (λ m. is_some (get m q)) none ∙ ap is_some (get-empty byte_order q))

-- ---- how many are open

pub none_few : (lanes : Values Standing) → lanes ≡ empty → len lanes ≤ MOST_DOCUMENTS
none_few lanes none = omega (arith, ap len none ∙ len-empty byte_order Standing)

pub lent_few : (lanes : Values Standing) (name : List ℕ) (lane : Standing) → IsSome (get lanes name) → len lanes ≤ MOST_DOCUMENTS → len (insert lanes name lane) ≤ MOST_DOCUMENTS
lent_few lanes name lane there few =
    omega (arith, len-insert byte_order_total lanes name lane ∙ ap (λ b. cond b (len lanes) (len lanes + 1)) there, few)

pub opened_few : (lanes now : Values Standing) (name : List ℕ) (lane : Standing) → now ≡ insert lanes name lane → len lanes < MOST_DOCUMENTS → len now ≤ MOST_DOCUMENTS
opened_few lanes now name lane are room = rw are (by (is_some (get lanes name)) (len-insert byte_order_total lanes name lane))
  where
    by : (b : Bool) → len (insert lanes name lane) ≡ cond b (len lanes) (len lanes + 1) → len (insert lanes name lane) ≤ MOST_DOCUMENTS
    by true is = omega (arith, is, room)
    by false is = omega (arith, is, room)

pub ended_few : (lanes now : Values Standing) (name : List ℕ) → now ≡ remove lanes name → len lanes ≤ MOST_DOCUMENTS → len now ≤ MOST_DOCUMENTS
ended_few lanes now name are few = rw are (by (is_some (get lanes name)) (len-remove byte_order_total lanes name))
  where
    by : (b : Bool) → len (remove lanes name) ≡ cond b (len lanes - 1) (len lanes) → len (remove lanes name) ≤ MOST_DOCUMENTS
    by true is = omega (arith, is, few)
    by false is = omega (arith, is, few)

-- ---- uses

pub opens_by : (name : List ℕ) (moment : ℕ) (old new : Opened) → get old.lanes name ≡ None → OpensNew name moment old new → UsesBy (get old.lanes name) name moment old new
opens_by name moment old new none opens = subst (λ o. UsesBy o name moment old new) (sym none) opens

pub ends_none : (name : List ℕ) (old new : Opened) → get old.lanes name ≡ None → new ≡ old → Ends name (get old.lanes name) old new
ends_none name old new none same = subst (λ o. Ends name o old new) (sym none) same

used : (name : List ℕ) (moment : ℕ) (old new : Opened) (o : Option Standing) → get old.lanes name ≡ o → UsesBy o name moment old new → IsSome (get new.lanes name)
used name moment old new (Some lane) there same = ap (λ (n : Opened). is_some (get n.lanes name)) same ∙ ap is_some there
used name moment old new None absent opens = ap (λ lanes. is_some (get lanes name)) opens.lanes ∙ ap is_some (get_own old.lanes name opens.lane)

-- a document that is used is open
pub is_used : (name : List ℕ) (moment : ℕ) (old new : Opened) → Uses {A = Unit {0}} name moment old new (Ok tt) → IsSome (get new.lanes name)
is_used name moment old new uses = used name moment old new (get old.lanes name) refl uses
