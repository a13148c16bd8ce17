use Rattle.std.proofs.Common.{◌≡◌, ◌+◌, ◌++◌, ◌∷◌, [], suc, length, sym, ap, subst, ◌∙◌, arith}
use Rattle.std.proofs.lemmas.Bool.{false≢true}
use Rattle.fluid_clients.specs.Rounds.{IsHigh, IsShaped, IsTournament, root_of}
use Rattle.fluid_clients.proofs.Grown.{high-shape, higher-room, heightened}
use Rattle.fluid_clients.proofs.index.heighten.Goals as goal

pub returns-then-is_high : goal.returns-then-is_high
returns-then-is_high g c =
    let n = length c.args.slots.now in
    let rounds = c.args.rounds.now.items in
    let next : suc n ≡ n + 1 = omega arith in
    record {
      tournament = c.requires.tournament;
      high = subst (λ m. IsShaped m rounds) next (high-shape n rounds c.requires.tournament.shape c.requires.wide (c.is_high.ensures.0 c.if-is_high.true));
    }

pub returns : goal.returns
returns g c =
    let n = length c.args.slots.now in
    let rounds = c.args.rounds.now.items in
    let next : suc n ≡ n + 1 = omega arith in
    let low : IsHigh rounds → ⊥ = λ high. false≢true (sym c.if-is_high.false ∙ c.is_high.ensures.1 high) in
    let top : c.in_ok-round.round ≡ root_of rounds ∷ [] = c.in_ok-round.ensures ∙ ap (λ w. w ∷ []) c.root.ensures in
    let items : c.push.new.self.items ≡ rounds ++ (root_of rounds ∷ []) ∷ [] = c.in_ok-push.ensures.items ∙ ap (λ r. rounds ++ r ∷ []) top in
    record {
      tournament = subst (IsTournament g.T.Rank.number c.args.slots.now) (sym items) (heightened g.T.Rank.number c.args.slots.now rounds c.requires.tournament c.requires.wide low);
      high = subst (IsShaped (n + 1)) (sym items) (subst (λ m. IsShaped m (rounds ++ (root_of rounds ∷ []) ∷ [])) next (higher-room n rounds c.requires.tournament.shape c.requires.wide low (root_of rounds)));
    }
