-- The last mark of a file is that of where the file stands.
use Rattle.std.proofs.Common.{◌≡◌, ℕ, Some, List, [], ◌∷◌, sym, ap, ◌∙◌}
use Rattle.log_codec.proofs.Codecs.{and_then_some}
use Rattle.log_header.specs.Header.{HeaderView}
use Rattle.log_text.specs.Bodies.{BodyView, Entries, Void, mark_of, marked, entries_after, body_after, bodies_after}
use Rattle.log_text.specs.declared.last.Last.{Last}
use Rattle.log_text.proofs.Texts.{some_is}
use Rattle.log_text.proofs.Lawful.{through}
use Rattle.recover_found.specs.Found.{last_mark}

body_mark : (h : HeaderView) (last : Last) (b : BodyView) (now : Last) → body_after h last b ≡ Some now → now.mark ≡ mark_of b
body_mark h last (Entries mark entries) now e =
    let t = through _ _ now e in
    let s = and_then_some (λ (l : Last). Some (marked mark l)) (entries_after h mark 0 last entries) now t.1 in
    sym (ap (λ (l : Last). l.mark) (some_is (marked mark s.0) now s.2))
body_mark h last (Void low high) now e =
    let t = through _ _ now e in
    sym (ap (λ (l : Last). l.mark) (some_is (marked high last) now t.1))

pub last_is : (h : HeaderView) (first : Last) (bs : List BodyView) (last : Last) → bodies_after h first bs ≡ Some last
    → last_mark first.mark bs ≡ last.mark
last_is h first [] last e = ap (λ (l : Last). l.mark) (some_is first last e)
last_is h first (b ∷ bs) last e =
    let s = and_then_some (λ (l : Last). bodies_after h l bs) (body_after h first b) last e in
    ap (λ (m : ℕ). last_mark m bs) (sym (body_mark h first b s.0 s.1)) ∙ last_is h s.0 bs last s.2
