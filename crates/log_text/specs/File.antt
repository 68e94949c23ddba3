-- A log file: its header, and the bodies in front of its first closed gate.
use Rattle.std.specs.Prelude.{◌≡◌, ◌≢◌, ℕ, Some, IsSome, List, [], ◌∷◌, ◌++◌, length}
use Rattle.log_header.specs.Header.{HeaderView, header_text, IsHeader}
use Rattle.log_text.specs.Bodies.{BodyView, body_text, body_after, bodies_after, start}
use Rattle.log_text.specs.declared.last.Last.{Last}

-- bodies, each behind an open gate
abbrev pub opened : List BodyView → List ℕ
opened [] = []
opened (b ∷ bs) = 1 ∷ (body_text b ++ opened bs)

-- the file has this header and these bodies. What stands behind its first closed gate may be anything
pub record IsFile (file : List ℕ) (h : HeaderView) (bodies : List BodyView) : Type 0 where
  pub gate : ℕ
  pub rest : List ℕ
  pub text : file ≡ header_text h ++ (opened bodies ++ gate ∷ rest)
  pub is_closed : gate ≢ 1
  pub header : IsHeader h
  pub lawful : IsSome (bodies_after h start bodies)

-- and behind these bodies the file stands here, with the gate that ends its text at this place
pub record IsFileTo (file : List ℕ) (h : HeaderView) (bodies : List BodyView) (last : Last) (end : ℕ) : Type 0 where
  pub is : IsFile file h bodies
  pub stands : bodies_after h start bodies ≡ Some last
  pub place : length (header_text h ++ opened bodies) ≡ end

-- bytes begin with this body, which may follow, and behind it the file stands here
pub record IsBody (h : HeaderView) (last : Last) (b : BodyView) (now : Last) (rest bytes : List ℕ) : Type 0 where
  pub text : bytes ≡ body_text b ++ rest
  pub lawful : body_after h last b ≡ Some now

-- bytes are these bodies, and a closed gate behind them
pub record AreBodies (h : HeaderView) (bodies : List BodyView) (bytes : List ℕ) : Type 0 where
  pub gate : ℕ
  pub rest : List ℕ
  pub text : bytes ≡ opened bodies ++ gate ∷ rest
  pub is_closed : gate ≢ 1
  pub lawful : IsSome (bodies_after h start bodies)

-- and behind these bodies the file stands here, where these bytes are left: the closed gate is the first of them
pub record AreBodiesTo (h : HeaderView) (bodies : List BodyView) (last : Last) (left bytes : List ℕ) : Type 0 where
  pub are : AreBodies h bodies bytes
  pub stands : bodies_after h start bodies ≡ Some last
  pub parts : bytes ≡ opened bodies ++ left
