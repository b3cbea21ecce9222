-- Reads count bytes, files and blobs, each up to the greatest u64.
use Rattle.std.specs.Prelude.{◌≡◌, ℕ, ◌+◌, Option, IfSome}
use Rattle.status_index.specs.Content.{saturate}
use Rattle.status_compare.specs.declared.read_data.Reads.{Reads}

abbrev pub no_reads : Reads
no_reads = record { bytes = 0; files = 0; object_bytes = 0; objects = 0 }

abbrev pub plus_reads : Reads → Reads → Reads
plus_reads a b = record {
  bytes = saturate (a.bytes + b.bytes);
  files = saturate (a.files + b.files);
  object_bytes = saturate (a.object_bytes + b.object_bytes);
  objects = saturate (a.objects + b.objects);
}

-- The counts with more bytes of a file or link; below with one file or link more, and with one blob more.
abbrev pub with_bytes : Reads → ℕ → Reads
with_bytes k n = record k { bytes = saturate (k.bytes + n) }

abbrev pub with_file : Reads → Reads
with_file k = record k { files = saturate (k.files + 1) }

abbrev pub with_object : Reads → ℕ → Reads
with_object k n = record k { object_bytes = saturate (k.object_bytes + n); objects = saturate (k.objects + 1) }

-- The counts are exactly these, if reads are modelled.
abbrev pub HasRead : Option Reads → Reads → Type 0
HasRead counted reads = IfSome counted (λ k. reads ≡ k)
