-- What a table of one value says.
use Rattle.std.proofs.Common.{◌≡◌, ℕ, zero, suc, map, replicate, refl, ap, ◌∷◌}

pub map_replicate : {X Y : Type 0} (f : X → Y) (n : ℕ) (x : X) → map f (replicate n x) ≡ replicate n (f x)
map_replicate f zero x = refl
map_replicate f (suc n) x = ap (λ ys. f x ∷ ys) (map_replicate f n x)
