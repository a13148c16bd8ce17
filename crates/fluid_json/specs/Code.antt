-- How the logic stores a tree: as a tree of numbers, one to one.
use Rattle.std.specs.Prelude.{◌≡◌, ℕ, List, refl}
use Rattle.std.specs.Coded.{Coded, coded_ℕ, coded_ℤ, coded_bool, coded_list}
use Rattle.std.proofs.Common.{ap, ap₂}
use base.Stored.{Gv, gnil, gnum, gcons}
use Rattle.fluid_json.specs.Tree.{Tree, null, boolean, whole, text, list, object, Trees, no_trees, tree, Members, no_members, member}

abbrev pub text_gv : List ℕ → Gv
text_gv = (coded_list coded_ℕ).code

abbrev mutual
  pub tree_gv : Tree → Gv
  tree_gv null = gnum 0
  tree_gv (boolean b) = gcons (gnum 1) (coded_bool.code b)
  tree_gv (whole n) = gcons (gnum 2) (coded_ℤ.code n)
  tree_gv (text s) = gcons (gnum 3) (text_gv s)
  tree_gv (list ts) = gcons (gnum 4) (trees_gv ts)
  tree_gv (object ms) = gcons (gnum 5) (members_gv ms)

  pub trees_gv : Trees → Gv
  trees_gv no_trees = gnil
  trees_gv (tree t ts) = gcons (tree_gv t) (trees_gv ts)

  pub members_gv : Members → Gv
  members_gv no_members = gnil
  members_gv (member k t ms) = gcons (text_gv k) (gcons (tree_gv t) (members_gv ms))

abbrev second : Gv → Gv
second gnil = gnil
second (gnum n) = gnil
second (gcons a b) = b

abbrev first : Gv → Gv
first gnil = gnil
first (gnum n) = gnil
first (gcons a b) = a

three : {A B C D : Type 0} (f : A → B → C → D) {a a' : A} {b b' : B} {c c' : C} → a ≡ a' → b ≡ b' → c ≡ c' → f a b c ≡ f a' b' c'
three f p q r = λ i. f (p i) (q i) (r i)

mutual
  pub tree_inj : (x y : Tree) → tree_gv x ≡ tree_gv y → x ≡ y
  tree_inj null null p = refl
  tree_inj (boolean a) (boolean b) p = ap boolean (coded_bool.inj a b (ap second p))
  tree_inj (whole a) (whole b) p = ap whole (coded_ℤ.inj a b (ap second p))
  tree_inj (text a) (text b) p = ap text ((coded_list coded_ℕ).inj a b (ap second p))
  tree_inj (list a) (list b) p = ap list (trees_inj a b (ap second p))
  tree_inj (object a) (object b) p = ap object (members_inj a b (ap second p))
  tree_inj x y p = cc

  pub trees_inj : (x y : Trees) → trees_gv x ≡ trees_gv y → x ≡ y
  trees_inj no_trees no_trees p = refl
  trees_inj (tree a ts) (tree b us) p = ap₂ tree (tree_inj a b (ap first p)) (trees_inj ts us (ap second p))
  trees_inj x y p = cc

  pub members_inj : (x y : Members) → members_gv x ≡ members_gv y → x ≡ y
  members_inj no_members no_members p = refl
  members_inj (member k a ms) (member l b ns) p =
      three member ((coded_list coded_ℕ).inj k l (ap first p)) (tree_inj a b (ap (λ g. first (second g)) p)) (members_inj ms ns (ap (λ g. second (second g)) p))
  members_inj x y p = cc

abbrev pub tree_code : Coded Tree
tree_code = record { code = tree_gv; inj = tree_inj }
