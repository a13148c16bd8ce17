-- Values under names, in a tree that is searched by name: what a change of one of them is.
use Rattle.std.proofs.Common.{◌≡◌, ℕ, ◌+◌, ◌≤◌, arith, ◌==◌, Bool, true, false, ◌&&◌, cond, List, Option, Some, None, String, Global, string_bytes, string_cmp, refl, sym, ◌∙◌, ap, ap₂, subst, nat_cmp, inl, inr, ◌⊎◌, bytes_eq}
use Rattle.std.specs.Prelude.{is_some, Result, Ok, Err, OnOk, OnErr}
use Rattle.std.specs.Cmp.Lexicographic.{slice_cmp}
use Rattle.std.specs.BTreeMap.{get_by_text, UpdatesBy}
use Rattle.std.specs.BTreeSet.{contains}
use Rattle.std.proofs.lemmas.Map.Text.{btree_map_updates_text}
use Rattle.std.proofs.lemmas.Slice.Eq.{bytes_eq-Decides}
use Rattle.fluid_tasks.specs.declared.held.Holdings.{Holdings}
use Rattle.fluid_tasks.specs.Kept.{Named, at, SameNames, MadeAt, Makes, ChangedAt, Changes, IsEmptyHoldings, Clients, has_item, task_at, KeepsItems, NotesTask, SameClients}

none_of : {X : Type 0} (o : Option X) → is_some o ≡ false → o ≡ None
none_of None is = refl
none_of (Some x) is = absurd (cc)

some_of : {X : Type 0} (o : Option X) (x : X) → o ≡ Some x → is_some o ≡ true
some_of o x is = ap is_some is

-- where a call succeeded, and where it failed
pub on_ok : {T E : Type 0} (r : Result T E) {P Q : Type 0} → (P → Q) → OnOk r P → OnOk r Q
on_ok (Ok v) step h = step h
on_ok (Err e) step h = tt

pub on_err : {T E : Type 0} (r : Result T E) {P Q : Type 0} → (P → Q) → OnErr r P → OnErr r Q
on_err (Ok v) step h = tt
on_err (Err e) step h = step h

pub when_err : {T E : Type 0} (r : Result T E) {P : Type 0} → P → OnErr r P
when_err (Ok v) h = tt
when_err (Err e) h = h

-- at most one more
pub one_more : (b : Bool) (n m : ℕ) → n ≡ m + cond b 0 1 → n ≤ m + 1
one_more true n m is = omega (arith, is)
one_more false n m is = omega (arith, is)

-- one value is another one now
abbrev pub Sets : {V : Type 0} → List ℕ → V → Named V → Named V → Type 0
Sets name w m n = (q : List ℕ) → at n q ≡ cond (bytes_eq name q) (Some w) (at m q)

pub sets : {V : Type 0} (name : List ℕ) (m n : Named V) (w : V) → UpdatesBy string_cmp (λ k. slice_cmp nat_cmp name (string_bytes k)) m n (Some w) → (q : List ℕ) → at n q ≡ cond (bytes_eq name q) (Some w) (at m q)
sets name m n w updates q = btree_map_updates_text name m n (Some w) updates q

pub changed : {V : Type 0} (Is : V → V → Type 0) (name : List ℕ) (m n : Named V) (old w : V) → at m name ≡ Some old → UpdatesBy string_cmp (λ k. slice_cmp nat_cmp name (string_bytes k)) m n (Some w) → Is old w → Changes Is name m n
changed Is name m n old w was updates is q = of (bytes_eq name q) refl
  where
    of : (b : Bool) → bytes_eq name q ≡ b → ChangedAt Is b (at m q) (at n q)
    of true same =
        let here : at m q ≡ Some old = ap (at m) (sym ((bytes_eq-Decides name q).0 same)) ∙ was in
        subst (λ o. ChangedAt Is true o (at n q)) (sym here) (w, (sets name m n w updates q ∙ ap (λ b. cond b (Some w) (at m q)) same, is))
    of false other = sets name m n w updates q ∙ ap (λ b. cond b (Some w) (at m q)) other

-- there is none
pub unchanged : {V : Type 0} (Is : V → V → Type 0) (name : List ℕ) (m : Named V) → at m name ≡ None → Changes Is name m m
unchanged Is name m none q = of (bytes_eq name q) refl
  where
    of : (b : Bool) → bytes_eq name q ≡ b → ChangedAt Is b (at m q) (at m q)
    of true same =
        let here : at m q ≡ None = ap (at m) (sym ((bytes_eq-Decides name q).0 same)) ∙ none in
        subst (λ o. ChangedAt Is true o (at m q)) (sym here) here
    of false other = refl

-- one value is the same again
pub same_names : {V : Type 0} (name : List ℕ) (m n : Named V) (old w : V) → at m name ≡ Some old → UpdatesBy string_cmp (λ k. slice_cmp nat_cmp name (string_bytes k)) m n (Some w) → w ≡ old → SameNames m n
same_names name m n old w was updates same q = sets name m n w updates q ∙ of (bytes_eq name q) refl
  where
    of : (b : Bool) → bytes_eq name q ≡ b → cond b (Some w) (at m q) ≡ at m q
    of true here = ap Some same ∙ sym was ∙ ap (at m) ((bytes_eq-Decides name q).0 here)
    of false other = refl

-- a value is put where none was
pub makes : {V : Type 0} (Is : V → Type 0) (key : String Global) (m n : Named V) (w : V) → is_some (at m (string_bytes key)) ≡ false → UpdatesBy string_cmp (string_cmp key) m n (Some w) → Is w → Makes Is m n
makes Is key m n w none updates is q = of (bytes_eq (string_bytes key) q) refl
  where
    step : at n q ≡ cond (bytes_eq (string_bytes key) q) (Some w) (at m q)
    step = btree_map_updates_text (string_bytes key) m n (Some w) updates q

    of : (b : Bool) → bytes_eq (string_bytes key) q ≡ b → (at n q ≡ at m q) ⊎ MadeAt Is (at m q) (at n q)
    of true same =
        let here : at m q ≡ None = ap (at m) (sym ((bytes_eq-Decides (string_bytes key) q).0 same)) ∙ none_of _ none in
        inr (subst (λ o. MadeAt Is o (at n q)) (sym here) (w, (step ∙ ap (λ b. cond b (Some w) (at m q)) same, is)))
    of false other = inl (step ∙ ap (λ b. cond b (Some w) (at m q)) other)

-- ---- what is noted of clients

module _ (client : List ℕ) (m n : Clients) (old w : Holdings) (was : at m client ≡ Some old) (updates : UpdatesBy string_cmp (λ k. slice_cmp nat_cmp client (string_bytes k)) m n (Some w)) where
  here : (c : List ℕ) → bytes_eq client c ≡ true → at m c ≡ Some old
  here c same = ap (at m) (sym ((bytes_eq-Decides client c).0 same)) ∙ was

  behind : (c : List ℕ) (b : Bool) → bytes_eq client c ≡ b → at n c ≡ cond b (Some w) (at m c)
  behind c b is = sets client m n w updates c ∙ ap (λ x. cond x (Some w) (at m c)) is

  -- what is noted of its tasks is the same
  tasks_stay : ((u : List ℕ) → get_by_text w.tasks u ≡ get_by_text old.tasks u) → (c u : List ℕ) → task_at (at n c) u ≡ task_at (at m c) u
  tasks_stay same c u = of (bytes_eq client c) refl
    where
      of : (b : Bool) → bytes_eq client c ≡ b → task_at (at n c) u ≡ task_at (at m c) u
      of true is = ap (λ o. task_at o u) (behind c true is) ∙ same u ∙ sym (ap (λ o. task_at o u) (here c is))
      of false is = ap (λ o. task_at o u) (behind c false is)

  items_stay : ((x : ℕ) → contains nat_cmp w.items x ≡ contains nat_cmp old.items x) → (c : List ℕ) (x : ℕ) → has_item (at n c) x ≡ has_item (at m c) x
  items_stay same c x = of (bytes_eq client c) refl
    where
      of : (b : Bool) → bytes_eq client c ≡ b → has_item (at n c) x ≡ has_item (at m c) x
      of true is = ap (λ o. has_item o x) (behind c true is) ∙ same x ∙ sym (ap (λ o. has_item o x) (here c is))
      of false is = ap (λ o. has_item o x) (behind c false is)

  -- nothing is lost
  pub grows : ((x : ℕ) → contains nat_cmp old.items x ≡ true → contains nat_cmp w.items x ≡ true) → ((u : List ℕ) → get_by_text w.tasks u ≡ get_by_text old.tasks u) → SameClients m n
  grows kept same = record { items = λ c x. of c x (bytes_eq client c) refl; tasks = tasks_stay same }
    where
      of : (c : List ℕ) (x : ℕ) (b : Bool) → bytes_eq client c ≡ b → has_item (at m c) x ≡ true → has_item (at n c) x ≡ true
      of c x true is h = ap (λ o. has_item o x) (behind c true is) ∙ kept x (sym (ap (λ o. has_item o x) (here c is)) ∙ h)
      of c x false is h = ap (λ o. has_item o x) (behind c false is) ∙ h

  pub has_noted : (x : ℕ) → contains nat_cmp w.items x ≡ true → has_item (at n client) x ≡ true
  has_noted x has = ap (λ o. has_item o x) (behind client true ((bytes_eq-Decides client client).1 refl)) ∙ has

  pub loses : (item : ℕ) → ((x : ℕ) → (item == x) ≡ false → contains nat_cmp w.items x ≡ contains nat_cmp old.items x) → ((u : List ℕ) → get_by_text w.tasks u ≡ get_by_text old.tasks u) → KeepsItems client item m n
  loses item kept same = record { items = λ c x. of c x (bytes_eq client c) refl; tasks = tasks_stay same }
    where
      of : (c : List ℕ) (x : ℕ) (b : Bool) → bytes_eq client c ≡ b → (bytes_eq client c && (item == x)) ≡ false → has_item (at m c) x ≡ true → has_item (at n c) x ≡ true
      of c x true is other h =
          let apart : (item == x) ≡ false = sym (ap (λ b. b && (item == x)) is) ∙ other in
          ap (λ o. has_item o x) (behind c true is) ∙ kept x apart ∙ sym (ap (λ o. has_item o x) (here c is)) ∙ h
      of c x false is other h = ap (λ o. has_item o x) (behind c false is) ∙ h

  pub notes : (task : List ℕ) (noted : Option ℕ) → ((x : ℕ) → contains nat_cmp w.items x ≡ contains nat_cmp old.items x) → ((u : List ℕ) → get_by_text w.tasks u ≡ cond (bytes_eq task u) noted (get_by_text old.tasks u))
      → NotesTask client task noted m n
  notes task noted same new = record { items = items_stay same; tasks = λ c u. of c u (bytes_eq client c) refl }
    where
      of : (c u : List ℕ) (b : Bool) → bytes_eq client c ≡ b → task_at (at n c) u ≡ cond (bytes_eq client c && bytes_eq task u) noted (task_at (at m c) u)
      of c u true is =
          ap (λ o. task_at o u) (behind c true is) ∙ new u ∙ ap (λ o. cond (bytes_eq task u) noted o) (sym (ap (λ o. task_at o u) (here c is)))
          ∙ sym (ap (λ b. cond (b && bytes_eq task u) noted (task_at (at m c) u)) is)
      of c u false is = ap (λ o. task_at o u) (behind c false is) ∙ sym (ap (λ b. cond (b && bytes_eq task u) noted (task_at (at m c) u)) is)

-- nothing is noted of a client, and so nothing to lose
pub loses_nothing : (client : List ℕ) (item : ℕ) (m : Clients) → KeepsItems client item m m
loses_nothing client item m = record { items = λ c x other h. h; tasks = λ c u. refl }

pub notes_nothing : (client task : List ℕ) (m : Clients) → at m client ≡ None → NotesTask client task None m m
notes_nothing client task m none = record { items = λ c x. refl; tasks = λ c u. of c u (bytes_eq client c) refl }
  where
    either : (b : Bool) → cond {A = Option ℕ} b None None ≡ None
    either true = refl
    either false = refl

    of : (c u : List ℕ) (b : Bool) → bytes_eq client c ≡ b → task_at (at m c) u ≡ cond (bytes_eq client c && bytes_eq task u) None (task_at (at m c) u)
    of c u true is =
        let gone : at m c ≡ None = ap (at m) (sym ((bytes_eq-Decides client c).0 is)) ∙ none in
        ap (λ o. task_at o u) gone ∙ sym (ap₂ (λ b o. cond (b && bytes_eq task u) None (task_at o u)) is gone ∙ either (bytes_eq task u))
    of c u false is = sym (ap (λ b. cond (b && bytes_eq task u) None (task_at (at m c) u)) is)
