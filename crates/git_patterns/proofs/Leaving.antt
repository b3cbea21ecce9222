-- Each reading of a pattern leaves less than there was.
use Rattle.std.proofs.Common.{◌<◌, ◌≤◌, ◌-◌, ◌+◌, ◌==◌, ◌&&◌, ◌||◌, not, ℕ, Bool, true, false, cond, List, [], ◌∷◌, length, take, drop, Option, Some, None, arith}
use Rattle.std.proofs.lemmas.List.{length-drop}
use Rattle.std.specs.Option.{option_and_then, option_map}
use Rattle.git_patterns.specs.Items.{closed_by, items_of}
use Rattle.git_patterns.specs.Sets.{byte_at, class_at, class_named, class_to, has_range, item_at, item_step, member_at, named_item, range_after, range_at, set_at}
use Rattle.git_patterns.specs.Sets as sets
use Rattle.git_patterns.specs.Patterns.{after_stars, any_set_at, begins_name, escaped_at, part_at, part_step, set_part_at, star_at, stars_at}
use Rattle.git_patterns.specs.Styles.{styled, styled_step}
use Rattle.git_patterns.specs.Text.{begins_with, first_at}
use Rattle.git_patterns.specs.Wildmatch.{Part, One, Any, Set, Name, Folders, Everything}
use Rattle.git_patterns.specs.declared.set.Class.{Class}
use Rattle.git_patterns.specs.declared.wildcards.Style.{Style}
use Rattle.git_patterns.specs.declared.set.Item.{Item}
use Rattle.git_patterns.specs.declared.set.Item.TheVariants.{Range, Class as Named}
use Rattle.git_patterns.proofs.Items.{Leaves, Shortens, cond_leaves, items_leave, map_leaves, wider}

abbrev pub Bytes : Type 0
Bytes = List ℕ

abbrev pub lens : Bool × Bytes → ℕ
lens s = length s.1

-- ---- sets

byte_leaves : (b : ℕ) (rest : Bytes) → Leaves length (b ∷ rest) (byte_at rest)
byte_leaves b [] = tt
byte_leaves b (c ∷ rest) = omega arith

member_leaves : Shortens length member_at
member_leaves [] = tt
member_leaves (b ∷ rest) = cond_leaves length (b ∷ rest) (b == 92) (byte_at rest) (Some (b, rest)) (byte_leaves b rest) (omega arith)

dropped : (n : ℕ) (bytes : Bytes) → length (drop n bytes) ≤ length bytes
dropped n bytes = omega (arith, length-drop n bytes)

range_leaves : (bytes : Bytes) (first : ℕ × Bytes) → length first.1 < length bytes → Leaves length bytes (range_after first)
range_leaves bytes first less =
    let last = member_at (drop 1 first.1) in
    cond_leaves length bytes (has_range first.1) (option_map (λ x. (Range first.0 x.0, x.1)) last) (Some (Range first.0 first.0, first.1))
    (map_leaves length bytes (λ b. Range first.0 b) last (wider length (drop 1 first.1) bytes last (member_leaves (drop 1 first.1)) (omega (arith, less, dropped 1 first.1))))
    less

ranges_leave : (bytes : Bytes) (o : Option (ℕ × Bytes)) → Leaves length bytes o → Leaves length bytes (option_and_then range_after o)
ranges_leave bytes None h = tt
ranges_leave bytes (Some first) h = range_leaves bytes first h

range_at_leaves : Shortens length range_at
range_at_leaves bytes = ranges_leave bytes (member_at bytes) (member_leaves bytes)

-- The name of a class leaves no more than there was.
class_leaves : (bytes all : Bytes) → length bytes < length all → Leaves length all (class_at bytes)
class_leaves bytes all less = named_to (first_at 93 bytes)
  where
    named_to : (o : Option ℕ) → Leaves length all (class_to o bytes)
    named_to None = tt
    named_to (Some end) = cond_leaves length all _ (Some (take (end - 1) bytes, drop (end + 1) bytes)) None (omega (arith, less, dropped (end + 1) bytes)) tt

named_class : (all rest : Bytes) (o : Option Class) → length rest < length all → Leaves length all (option_map (λ class. (Named class, rest)) o)
named_class all rest None less = tt
named_class all rest (Some class) less = less

named_leaves : (bytes : Bytes) (o : Option (Bytes × Bytes)) → Leaves length bytes o → Leaves length bytes (named_item o bytes)
named_leaves bytes None h = range_at_leaves bytes
named_leaves bytes (Some found) h = named_class bytes found.1 (class_named found.0) h

pub item_leaves : (is_first : Bool) → Shortens length (item_at is_first)
item_leaves is_first [] = tt
item_leaves is_first (b ∷ rest) =
    cond_leaves length (b ∷ rest) (b == 93 && not is_first) None _ tt
    (cond_leaves length (b ∷ rest) (b == 91 && sets.begins_with_colon rest) (named_item (class_at (drop 1 rest)) (b ∷ rest)) (range_at (b ∷ rest))
    (named_leaves (b ∷ rest) (class_at (drop 1 rest)) (class_leaves (drop 1 rest) (b ∷ rest) (omega (arith, dropped 1 rest))))
    (range_at_leaves (b ∷ rest)))

stepped : (bytes : Bytes) (o : Option (Item × Bytes)) (is_first next : Bool) → Leaves length bytes o → Leaves lens (is_first, bytes) (option_map (λ x. (x.0, (next, x.1))) o)
stepped bytes None is_first next h = tt
stepped bytes (Some x) is_first next h = h

pub item_step_leaves : Shortens lens item_step
item_step_leaves s = stepped s.1 (item_at s.0 s.1) s.0 false (item_leaves s.0 s.1)

pub closed_leaves : {A : Type 0} (c : ℕ) (items : A) (rest bytes : Bytes) → length rest ≤ length bytes → Leaves length bytes (closed_by c items rest)
closed_leaves c items [] bytes le = tt
closed_leaves c items (b ∷ rest) bytes le = cond_leaves length bytes (b == c) (Some (items, rest)) None (omega (arith, le)) tt

pub set_leaves : Shortens length set_at
set_leaves bytes =
    let found = items_of item_step (length bytes) (true, bytes) in
    closed_leaves 93 found.0 found.1.1 bytes (items_leave lens item_step item_step_leaves (length bytes) (true, bytes))

-- ---- parts of a pattern

stars_length : (bytes : Bytes) → length (after_stars bytes) ≤ length bytes
stars_length [] = omega arith
stars_length (b ∷ rest) = elim (b == 42) as (λ v. length (cond v (after_stars rest) (b ∷ rest)) ≤ length (b ∷ rest)) [
  | true ↦ omega (arith, stars_length rest)
  | false ↦ omega arith
]

cond_length : (v : Bool) (n : ℕ) (x y : Part × Bytes) → length x.1 ≤ n → length y.1 ≤ n → length (cond {A = Part × Bytes} v x y).1 ≤ n
cond_length true n x y h k = h
cond_length false n x y h k = k

stars_at_length : (bytes : Bytes) → length (stars_at bytes).1 ≤ length bytes
stars_at_length [] = omega arith
stars_at_length (b ∷ rest) =
    let n = length (b ∷ rest) in
    cond_length (b == 47) n (Folders, rest) _ (omega arith) (cond_length (b == 92 && begins_with 47 rest) n (Everything, b ∷ rest) (Name, b ∷ rest) (omega arith) (omega arith))

star_length : (at_name : Bool) (rest : Bytes) → length (star_at at_name rest).1 ≤ length rest
star_length at_name rest =
    cond_length (begins_with 42 rest && at_name) (length rest) (stars_at (after_stars rest)) (Name, after_stars rest) (omega (arith, stars_at_length (after_stars rest), stars_length rest)) (stars_length rest)

escaped_leaves : (b : ℕ) (rest : Bytes) → Leaves length (b ∷ rest) (escaped_at rest)
escaped_leaves b rest = map_leaves length (b ∷ rest) One (byte_at rest) (byte_leaves b rest)

set_part_leaves : (negated : Bool) (bytes all : Bytes) → length bytes ≤ length all → Leaves length all (set_part_at negated bytes)
set_part_leaves negated bytes all le = map_leaves length all (λ items. Set false negated items) (set_at bytes) (wider length bytes all (set_at bytes) (set_leaves bytes) le)

any_set_leaves : (b : ℕ) (rest : Bytes) → Leaves length (b ∷ rest) (any_set_at rest)
any_set_leaves b [] = set_part_leaves false [] (b ∷ []) (omega arith)
any_set_leaves b (c ∷ rest) =
    cond_leaves length (b ∷ c ∷ rest) (c == 33 || c == 94) (set_part_at true rest) (set_part_at false (c ∷ rest))
    (set_part_leaves true rest (b ∷ c ∷ rest) (omega arith)) (set_part_leaves false (c ∷ rest) (b ∷ c ∷ rest) (omega arith))

pub part_leaves : (at_name : Bool) → Shortens length (part_at at_name)
unfolding part_at
part_leaves at_name [] = tt
part_leaves at_name (b ∷ rest) =
    let one : length rest < length (b ∷ rest) = omega arith in
    let star : length (star_at at_name rest).1 < length (b ∷ rest) = omega (arith, star_length at_name rest) in
    cond_leaves length (b ∷ rest) (b == 63) (Some (Any, rest)) _ one
    (cond_leaves length (b ∷ rest) (b == 42) (Some (star_at at_name rest)) _ star
    (cond_leaves length (b ∷ rest) (b == 92) (escaped_at rest) _ (escaped_leaves b rest)
    (cond_leaves length (b ∷ rest) (b == 91) (any_set_at rest) (Some (One b, rest)) (any_set_leaves b rest) one)))

part_stepped : (at_name : Bool) (bytes : Bytes) (o : Option (Part × Bytes)) → Leaves length bytes o → Leaves lens (at_name, bytes) (option_map (λ x. (x.0, (begins_name x.0, x.1))) o)
part_stepped at_name bytes None h = tt
part_stepped at_name bytes (Some x) h = h

pub part_step_leaves : Shortens lens part_step
part_step_leaves s = part_stepped s.0 s.1 (part_at s.0 s.1) (part_leaves s.0 s.1)

styled_stepped : (style : Style) (at_name : Bool) (bytes : Bytes) (o : Option (Part × Bytes)) → Leaves length bytes o
    → Leaves lens (at_name, bytes) (option_map (λ x. (styled style x.0, (style.parts_names && begins_name x.0, x.1))) o)
styled_stepped style at_name bytes None h = tt
styled_stepped style at_name bytes (Some x) h = h

pub styled_step_leaves : (style : Style) → Shortens lens (styled_step style)
styled_step_leaves style s = styled_stepped style s.0 s.1 (part_at s.0 s.1) (part_leaves s.0 s.1)
