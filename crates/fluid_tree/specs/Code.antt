-- How the logic stores a summary tree: as a tree of numbers, one to one.
use Rattle.std.specs.Prelude.{◌≡◌, ℕ, List, refl}
use Rattle.std.specs.Coded.{Coded, coded_ℕ, coded_list}
use Rattle.std.proofs.Common.{ap}
use base.Stored.{Gv, gnil, gnum, gcons}
use Rattle.fluid_tree.specs.Summary.{Summary, blob, tree, handle, Children, no_children, child}

abbrev pub name_gv : List ℕ → Gv
name_gv = (coded_list coded_ℕ).code

abbrev pub path_gv : List (List ℕ) → Gv
path_gv = (coded_list (coded_list coded_ℕ)).code

abbrev mutual
  pub summary_gv : Summary → Gv
  summary_gv (blob content) = gcons (gnum 0) (name_gv content)
  summary_gv (tree cs) = gcons (gnum 1) (children_gv cs)
  summary_gv (handle path) = gcons (gnum 2) (path_gv path)

  pub children_gv : Children → Gv
  children_gv no_children = gnil
  children_gv (child n s cs) = gcons (name_gv n) (gcons (summary_gv s) (children_gv cs))

abbrev second : Gv → Gv
second gnil = gnil
second (gnum n) = gnil
second (gcons a b) = b

abbrev first : Gv → Gv
first gnil = gnil
first (gnum n) = gnil
first (gcons a b) = a

three : {A B C D : Type 0} (f : A → B → C → D) {a a' : A} {b b' : B} {c c' : C} → a ≡ a' → b ≡ b' → c ≡ c' → f a b c ≡ f a' b' c'
three f p q r = λ i. f (p i) (q i) (r i)

mutual
  pub summary_inj : (x y : Summary) → summary_gv x ≡ summary_gv y → x ≡ y
  summary_inj (blob a) (blob b) p = ap blob ((coded_list coded_ℕ).inj a b (ap second p))
  summary_inj (tree a) (tree b) p = ap tree (children_inj a b (ap second p))
  summary_inj (handle a) (handle b) p = ap handle ((coded_list (coded_list coded_ℕ)).inj a b (ap second p))
  summary_inj x y p = cc

  pub children_inj : (x y : Children) → children_gv x ≡ children_gv y → x ≡ y
  children_inj no_children no_children p = refl
  children_inj (child n a cs) (child m b ds) p =
      three child ((coded_list coded_ℕ).inj n m (ap first p)) (summary_inj a b (ap (λ g. first (second g)) p)) (children_inj cs ds (ap (λ g. second (second g)) p))
  children_inj x y p = cc

abbrev pub summary_code : Coded Summary
summary_code = record { code = summary_gv; inj = summary_inj }
