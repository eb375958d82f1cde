-- The layout of a message, of its bytes alone: where its destination begins, where its body begins, and how long that is. RULES 1.
-- `s` is the list of the bytes lent, any bytes. Past the end a byte counts as 0.
use Rattle.std.specs.Prelude.{ℕ, ◌+◌, List, ◌≡◌}
use Rattle.envelope.specs.Addresses.{region_of, source_size}
use Rattle.envelope.specs.Heading.{variable_size, data_length}
use Rattle.envelope.specs.Layout.{header_size, addresses_place}
use Rattle.layout.specs.declared.layout.Layout.{Layout}

-- the destination follows the source and its zero; the body follows the header and its V bytes, and has D
unfoldable pub layout_of : List ℕ → Layout
layout_of s =
    record {
      destination = addresses_place + source_size (region_of s (variable_size s)) + 1;
      body = header_size + variable_size s;
      body_size = data_length s;
    }

-- what `layout_of` promises
abbrev pub LaidOut : List ℕ → Layout → Type 0
LaidOut bytes r = r ≡ layout_of bytes
