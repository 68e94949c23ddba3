-- Lists to which two elements were pushed.
use Rattle.std.proofs.Common.{◌≡◌, All, List, [], ◌∷◌, ◌++◌, rules, subst, sym}
use Rattle.std.proofs.lemmas.List.Elements.{All-push}

-- where both meet it, all do
pub both_meet : {X : Type 0} (P : X → Type 0) (none one both : List X) (x y : X) → none ≡ [] → one ≡ none ++ x ∷ []
    → both ≡ one ++ y ∷ [] → P x → P y → All P both
both_meet P none one both x y empty first second p q =
    let nothing : All P none = subst (All P) (sym empty) (search rules) in
    let only : All P one = subst (All P) (sym first) (All-push P none x nothing p) in
    subst (All P) (sym second) (All-push P one y only q)
