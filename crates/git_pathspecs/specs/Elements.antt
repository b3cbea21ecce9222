-- The nodes that an element of a pathspec chooses.
use Rattle.std.specs.Prelude.{◌≡◌, ℕ, ◌-◌, ◌&&◌, ◌||◌, not, nat_le, nat_lt, Bool, true, false, List, [], ◌∷◌, length, take, drop, Option, Some, None, option_map, is_some, if◌then◌else◌}
use Rattle.git_patterns.specs.Patterns.{literal_len}
use Rattle.git_patterns.specs.Styles.{styled_parts_of}
use Rattle.git_patterns.specs.Text.{ends_in_slash}
use Rattle.git_patterns.specs.Views.{wildcard_parts}
use Rattle.git_patterns.specs.Wildmatch.{Part, is_empty, is_match}
use Rattle.git_patterns.specs.declared.wildcards.Style.{Style}
use Rattle.git_pathspecs.specs.declared.element.Element.{Element}
use Rattle.git_pathspecs.specs.declared.magic.Magic.{Magic}
use Rattle.git_pathspecs.specs.Names.{after_front, has_one, is_end}

-- The text of a pathspec without a slash at its end.
abbrev pub path_of : List ℕ → List ℕ
path_of text = if ends_in_slash text then take (length text - 1) text else text

-- An element has wildcards after its front.
abbrev pub is_pattern : Element → Bool
is_pattern e = nat_lt (length e.front.now) (length e.text.now)

abbrev pub ends_so : Bool → Option (List ℕ) → Bool
ends_so may_end None = false
ends_so may_end (Some rest) = is_end may_end rest

-- An element takes no name that is shorter than this.
abbrev pub is_long_enough : Element → List ℕ → Bool
is_long_enough e name = nat_le e.least (length name)

-- A name is the element's path or below it. With a slash at its end only a folder is chosen, or a submodule. The empty text chooses everything.
abbrev pub is_within : Element → Bool → List ℕ → Bool
is_within e is_dir name =
    is_empty e.text.now
    || (is_long_enough e name && ends_so (is_dir || not (ends_in_slash e.text.now)) (after_front e.cased name (path_of e.text.now)))

-- Parts match what is left of a name. More than 255 parts match nothing: a request with so many is refused.
abbrev pub is_rest : Option (List Part) → Option (List ℕ) → Bool
is_rest None rest = false
is_rest (Some parts) None = false
is_rest (Some parts) (Some rest) = nat_le (length parts) 255 && is_match parts rest

-- A name begins with the element's front, and its wildcards match the rest.
abbrev pub has_match : Element → List ℕ → Bool
has_match e name = is_rest (option_map wildcard_parts e.wildcards) (after_front e.cased name e.front.now)

-- Whether an element chooses a node by its name. A submodule's name has no slash, but it counts as a folder.
abbrev pub chooses : Element → Bool → List ℕ → Bool
chooses e is_dir name = is_within e is_dir name || has_match e name

-- The element's path is below this folder, whose name ends in a slash.
abbrev pub is_below : Element → List ℕ → Bool
is_below e folder = is_long_enough e folder && is_some (after_front e.cased (path_of e.text.now) folder)

-- A path below this folder may match the element's wildcards: the folder's name begins with the front. As in git, no more is asked.
abbrev pub may_match_below : Element → List ℕ → Bool
may_match_below e folder = is_pattern e && is_some (after_front e.cased folder e.front.now)

-- Only the folder's slash is left.
abbrev pub is_slash_alone : Option (List ℕ) → Bool
is_slash_alone None = false
is_slash_alone (Some rest) = has_one rest

-- An element names exactly this folder, with a slash.
abbrev pub is_named : Element → List ℕ → Bool
is_named e folder = ends_in_slash e.text.now && is_slash_alone (after_front e.cased folder (path_of e.text.now))

-- An element names exactly this folder, or the folder isn't within the element and its wildcards match the folder's name.
abbrev pub is_exact : Element → List ℕ → Bool
is_exact e folder = is_named e folder || (not (is_within e true folder) && has_match e folder)

-- An element that doesn't choose a folder may choose a path below it.
abbrev pub leads_into : Element → List ℕ → Bool
leads_into e folder = not (chooses e true folder) && (is_below e folder || may_match_below e folder)

-- The bytes with which each path begins that the element chooses.
abbrev pub prefix_of : Element → List ℕ
prefix_of e = take e.cased (if is_pattern e then e.front.now else path_of e.text.now)

-- A node at a path, or one below it, may be chosen: the path begins with the front, or the front with the path.
abbrev pub reaches_to : Element → List ℕ → Bool
reaches_to e path = is_some (after_front e.cased path e.front.now) || is_some (after_front e.cased e.front.now path)

-- ---- the element of a text

-- How many bytes match themselves alone: all of a literal text, and otherwise those before the first wildcard, but at least those of the
-- working folder's path.
abbrev pub front_len : Magic → ℕ → List ℕ → ℕ
front_len magic kept text =
    if magic.literal then length text else (if nat_lt (literal_len text) kept then kept else literal_len text)

abbrev pub style_of : Magic → Style
style_of magic = record { parts_names = magic.glob; folds_case = magic.icase }

abbrev pub parts_after : Style → List ℕ → Option (List Part)
parts_after style [] = None
parts_after style (b ∷ rest) = styled_parts_of style (b ∷ rest)

-- The element of a text, which begins with the part of the working folder's path that is left in it. Case counts in that part at least.
pub record IsElement (magic : Magic) (kept : ℕ) (text : List ℕ) (e : Element) : Type 0 where
  pub text_is : e.text.now ≡ text
  pub front_is : e.front.now ≡ take (front_len magic kept text) text
  pub parts_are : option_map wildcard_parts e.wildcards ≡ parts_after (style_of magic) (drop (front_len magic kept text) text)
  pub cased_is : e.cased ≡ (if magic.icase then kept else length text)
  -- As in git, if case doesn't count, then a name that is taken has to be as long as the working folder's path.
  pub least_is : e.least ≡ (if magic.icase then kept else 0)
  pub excludes_is : e.excludes ≡ magic.excludes
