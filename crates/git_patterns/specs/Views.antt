-- The code's patterns as the definitions have them.
use Rattle.std.specs.Prelude.{List, map}
use Rattle.git_patterns.specs.declared.pattern.Pattern.{Pattern}
use Rattle.git_patterns.specs.declared.piece.Piece.{Piece}
use Rattle.git_patterns.specs.declared.wildcards.Wildcards.{Wildcards}
use Rattle.git_patterns.specs.declared.piece.Piece.TheVariants.{Byte, Any as AnyPiece, Set as SetPiece, Name as NamePiece, Folders as FoldersPiece, Everything as EverythingPiece}
use Rattle.git_patterns.specs.Wildmatch.{Part, One, Any, Set, Name, Folders, Everything}

-- A piece of the code as a part of a pattern.
abbrev pub part_of : Piece → Part
part_of (Byte c) = One c
part_of AnyPiece = Any
part_of (SetPiece slashes negated items) = Set slashes negated items.items
part_of NamePiece = Name
part_of FoldersPiece = Folders
part_of EverythingPiece = Everything

-- The parts of a pattern of the code.
abbrev pub pattern_parts : Pattern → List Part
pattern_parts p = map part_of p.pieces.items

-- The parts of a pathspec's pattern.
abbrev pub wildcard_parts : Wildcards → List Part
wildcard_parts w = map part_of w.pieces.items
