-- Acts one after another.
use Rattle.std.proofs.Common.{◌≡◌, ◌+◌, ◌*◌, ◌≤◌, arith, List, [], ◌∷◌, drop, length, Some, None, Ok, refl, sym, ap, subst, ◌∙◌}
use Rattle.std.specs.Prelude.{slice_get}
use Rattle.fluid_gen.specs.declared.act.Act.{Act}
use Rattle.fluid_gen.specs.declared.act.Act.TheVariants.{Begin}
use Rattle.fluid_load.specs.Standing.{AtWork, Works, Opens, CanWork, CanBegin}
use Rattle.fluid_load.specs.Acting.{acted, acted_all}
use Rattle.fluid_load.specs.Running.{IsBeginning, DidNext, DidNone}
use Rattle.fluid_load.proofs.Parts.{Ended, grows_not, on_none, then_works, then_opens, more_opens, can_then, can_less, can_behind, begin_less}

-- ---- the next act

pub first_left : (all : List Act) (act : Act) → slice_get all 0 ≡ Some act → all ≡ act ∷ drop 1 all
first_left [] act is = absurd (cc)
first_left (b ∷ all) act is = let same : b ≡ act = cc in ap (λ x. x ∷ all) same

pub none_left : (all : List Act) → slice_get all 0 ≡ None → all ≡ []
none_left [] is = refl
none_left (b ∷ all) is = absurd (cc)

pub next_few : (all rest : List Act) (act : Act) → all ≡ act ∷ rest → 5 ≤ 5 * length all
next_few all rest act is = omega (arith, ap length is)

pub can_next : (all rest : List Act) (act : Act) (s : AtWork) → all ≡ act ∷ rest → CanWork (5 * length all) s → CanWork 5 s
can_next all rest act s is can = can_less 5 (5 * length all) s (next_few all rest act is) can

pub did_next : (all rest : List Act) (act : Act) (a b : AtWork) → slice_get all 0 ≡ Some act → rest ≡ drop 1 all → Works 5 (acted act) a b (Ok tt) → DidNext all rest a b
did_next all rest act a b is left works = record { act = act; is = subst (λ l. all ≡ act ∷ l) (sym left) (first_left all act is); works = works }

-- ---- all of them

-- whatever comes of those that are left from here, all of them is this
pub record IsGoing (all left : List Act) (first now : AtWork) : Type 0 where
  pub can : CanWork (5 * length left) now
  pub whole : (b : AtWork) (r : Ended) → Works (5 * length left) (acted_all left) now b r → Works (5 * length all) (acted_all all) first b r

pub going_first : (all : List Act) (first : AtWork) → CanWork (5 * length all) first → IsGoing all all first first
going_first all first can = record { can = can; whole = λ b r works. works }

count_is : (act : Act) (left : List Act) → 5 + 5 * length left ≡ 5 * length (act ∷ left)
count_is act left = omega arith

going_on : (all : List Act) (act : Act) (left : List Act) (first now new : AtWork) → IsGoing all (act ∷ left) first now → Works 5 (acted act) now new (Ok tt) → IsGoing all left first new
going_on all act left first now new going works = record {
  can = can_then 5 (5 * length left) (subst (λ n. CanWork n now) (sym (count_is act left)) going.can) works;
  whole = λ b r rest. going.whole b r (subst (λ n. Works n (acted_all (act ∷ left)) now b r) (count_is act left) (then_works works rest));
}

pub going_next : (all left rest : List Act) (first now new : AtWork) → IsGoing all left first now → DidNext left rest now new → IsGoing all rest first new
going_next all left rest first now new going did = going_on all did.act rest first now new (subst (λ l. IsGoing all l first now) did.is going) did.works

pub gone : (all left : List Act) (first now new : AtWork) → IsGoing all left first now → DidNone left now new → Works (5 * length all) (acted_all all) first new (Ok tt)
gone all left first now new going did = subst (λ s. Works (5 * length all) (acted_all all) first s (Ok tt)) (sym did.same) (by (subst (λ l. IsGoing all l first now) did.none going))
  where
    by : IsGoing all [] first now → Works (5 * length all) (acted_all all) first now (Ok tt)
    by going = going.whole now (Ok tt) (record { on = on_none (5 * 0) now; leads = λ w good goes. goes; wears = λ w first steps good goes run. grows_not (5 * 0) w.world })

pub fewer_left : (left rest : List Act) (a b : AtWork) → DidNext left rest a b → length rest + 1 ≤ length left
fewer_left left rest a b did = omega (arith, ap length did.is)

-- ---- from the beginning

module _ (all rest : List Act) (begins : IsBeginning all) (left : rest ≡ drop 1 all) where
  behind_first : all ≡ Begin ∷ rest
  behind_first = begins.is ∙ ap (λ l. Begin ∷ l) (sym (left ∙ ap (drop 1) begins.is))

  pub first_few : 4 ≤ 5 * length all
  first_few = omega (arith, ap length behind_first)

  pub can_first : (s : AtWork) → CanBegin (5 * length all) s → CanBegin 4 s
  can_first s can = begin_less 4 (5 * length all) s first_few can

  pub can_others : (a b : AtWork) → CanBegin (5 * length all) a → Opens 4 (acted Begin) a b (Ok tt) → CanWork (5 * length rest) b
  can_others a b can opens = can_behind 4 (5 * length rest) (begin_less (4 + 5 * length rest) (5 * length all) a (omega (arith, ap length behind_first)) can) opens

  pub all_opens : (a b d : AtWork) (r : Ended) → Opens 4 (acted Begin) a b (Ok tt) → Works (5 * length rest) (acted_all rest) b d r → Opens (5 * length all) (acted_all all) a d r
  all_opens a b d r opens works = subst (λ l. Opens (5 * length all) (acted_all l) a d r) (sym behind_first) (more (then_opens opens works))
    where
      more : Opens (4 + 5 * length rest) (acted_all (Begin ∷ rest)) a d r → Opens (5 * length all) (acted_all (Begin ∷ rest)) a d r
      more one = more_opens (5 * length all) (omega (arith, ap length behind_first)) one
