-- Lists that are filtered, zipped and mapped.
use Rattle.std.proofs.Common.{◌≡◌, refl, sym, ap, ◌∙◌, ℕ, ◌+◌, ◌<◌, Bool, true, false, cond, List, [], ◌∷◌, ◌++◌, length, map, drop, slice_index_or, All, arith}
use Rattle.std.specs.List.{filter, zip, enumerate_from}
use Rattle.std.specs.List.Sorted.{IsSortedBy}
use Rattle.std.proofs.lemmas.List.{drop_more, get_or-map, length-map}
use Rattle.std.proofs.lemmas.List.Elements.{All-head, All-tail}

map-cond : {X Y : Type 0} (f : X → Y) (b : Bool) (x : X) (xs : List X) → cond b (f x ∷ map f xs) (map f xs) ≡ map f (cond b (x ∷ xs) xs)
map-cond f true x xs = refl
map-cond f false x xs = refl

pub filter-map : {X Y : Type 0} (p : Y → Bool) (f : X → Y) (xs : List X) → filter p (map f xs) ≡ map f (filter (λ x. p (f x)) xs)
filter-map p f [] = refl
filter-map p f (x ∷ xs) =
    ap (λ ys. cond (p (f x)) (f x ∷ ys) ys) (filter-map p f xs) ∙ map-cond f (p (f x)) x (filter (λ y. p (f y)) xs)

pub zip-map : {X Y : Type 0} (f : X → Y) (xs ys : List X) → zip (map f xs) (map f ys) ≡ map (λ (m : X × X). (f m.0, f m.1)) (zip xs ys)
zip-map f [] ys = refl
zip-map f (x ∷ xs) [] = refl
zip-map f (x ∷ xs) (y ∷ ys) = ap (λ ms. (f x, f y) ∷ ms) (zip-map f xs ys)

pub zip-nil : {X Y : Type 0} (xs : List X) → zip {K = X} {X = Y} xs [] ≡ []
zip-nil [] = refl
zip-nil (x ∷ xs) = refl

pub filter_none : {X : Type 0} (p : X → Bool) (xs : List X) → All (λ x. p x ≡ false) xs → filter p xs ≡ []
filter_none p [] h = refl
filter_none p (x ∷ xs) h =
    ap (λ b. cond b (x ∷ filter p xs) (filter p xs)) (All-head (λ y. p y ≡ false) x xs h) ∙ filter_none p xs (All-tail (λ y. p y ≡ false) x xs h)

pub enumerate_from_push : {X : Type 0} (n : ℕ) (xs : List X) (x : X) → enumerate_from n (xs ++ x ∷ []) ≡ enumerate_from n xs ++ (n + length xs, x) ∷ []
enumerate_from_push n [] x = ap (λ m. (m, x) ∷ []) (omega arith)
enumerate_from_push n (y ∷ xs) x =
    let e : (n + 1) + length xs ≡ n + length (y ∷ xs) = omega arith in
    ap (λ ys. (n, y) ∷ ys) (enumerate_from_push (n + 1) xs x ∙ ap (λ m. enumerate_from (n + 1) xs ++ (m, x) ∷ []) e)

-- A list of images is sorted if the list is sorted by its images.
pub IsSortedBy-map : {X Y : Type 0} (lt : Y → Y → Bool) (f : X → Y) (xs : List X) → IsSortedBy (λ a b. lt (f a) (f b)) xs → IsSortedBy lt (map f xs)
IsSortedBy-map lt f [] h k d from within = absurd (omega arith)
IsSortedBy-map lt f (x ∷ xs) h k d from within =
    let long : k + 1 < length (x ∷ xs) = omega (arith, within, length-map xs f) in
    let one : slice_index_or (map f (x ∷ xs)) (k + 1) d ≡ f (slice_index_or (x ∷ xs) (k + 1) x) = get_or-map f (x ∷ xs) (k + 1) x d long in
    let two : slice_index_or (map f (x ∷ xs)) k d ≡ f (slice_index_or (x ∷ xs) k x) = get_or-map f (x ∷ xs) k x d (omega arith) in
    rw (one, two) (h k x from long)

-- The rest of a list from a position in it.
pub drop_read : {X : Type 0} (xs : List X) (i : ℕ) (x : X) → i < length xs → x ≡ slice_index_or xs i x → drop i xs ≡ x ∷ drop (i + 1) xs
drop_read xs i x h e = drop_more xs i x h ∙ ap (λ y. y ∷ drop (i + 1) xs) (sym e)
