-- The nodes that the elements of a pathspec select together.
use Rattle.std.specs.Prelude.{ℕ, ◌&&◌, ◌||◌, not, Bool, true, List, [], ◌∷◌, if◌then◌else◌}
use Rattle.std.specs.List.{list_any}
use Rattle.git_pathspecs.specs.declared.element.Element.{Element}
use Rattle.git_pathspecs.specs.Elements.{chooses, is_exact, leads_into, prefix_of, reaches_to}

abbrev pub includes : Element → Bool
includes e = not e.excludes

-- An element that excludes chooses the node.
abbrev pub is_excluded : List Element → Bool → List ℕ → Bool
is_excluded es is_dir name = list_any (λ e. e.excludes && chooses e is_dir name) es

-- An element that doesn't exclude chooses the node. If there is none, every node is chosen.
abbrev pub is_chosen : List Element → Bool → List ℕ → Bool
is_chosen es is_dir name = not (list_any includes es) || list_any (λ e. includes e && chooses e is_dir name) es

-- A node is selected if it is chosen and not excluded.
abbrev pub selects : List Element → Bool → List ℕ → Bool
selects es is_dir name = is_chosen es is_dir name && not (is_excluded es is_dir name)

-- A path below a folder, whose name ends in a slash, may be selected by itself: an element leads there, and none is exactly the folder's.
abbrev pub leads : List Element → List ℕ → Bool
leads es folder =
    list_any (λ e. includes e && leads_into e folder) es
    && not (list_any (λ e. includes e && is_exact e folder) es || is_excluded es true folder)

-- A node at a path, or one below it, may be selected. As in git, elements that exclude count too.
abbrev pub reaches : List Element → List ℕ → Bool
reaches es path = not (list_any includes es) || list_any (λ e. reaches_to e path) es

-- The bytes with which each selected path begins, if there is one element.
abbrev pub common_prefix : List Element → List ℕ
common_prefix (e ∷ []) = if e.excludes then [] else prefix_of e
common_prefix es = []
