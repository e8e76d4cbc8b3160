-- Headers of version 2: a block of bytes (The PROXY protocol, 2.2).
use Rattle.std.specs.Prelude.{◌≡◌, ◌⊎◌, ◌+◌, ◌*◌, ◌%◌, ◌<◌, ◌≤◌, ◌==◌, ℕ, Bool, true, false}
use Rattle.std.specs.Prelude.{◌&&◌, nat_le, if◌then◌else◌, List, [], ◌∷◌, length, slice_index}
use Rattle.std.specs.Prelude.{slice_range, Option, Some, None}
use Rattle.std.specs.Net.Addr.{ipv4_octets, ipv6_segments, segments_of}
use Rattle.std.specs.Net.Socket.{v4_ip, v4_port, v6_ip, v6_port}
use Rattle.std.specs.declared.net.socket_addr.SocketAddr.{SocketAddr}
use Rattle.std.specs.declared.net.socket_addr.SocketAddr.TheVariants.{V4, V6}
use Rattle.acq_proxy.specs.declared.header.Header.{Header}
use Rattle.acq_proxy.specs.declared.header.Header.TheVariants.{Partial, Whole, Missing}

-- the first twelve bytes
abbrev pub signature : List ℕ
signature = 13 ∷ 10 ∷ 13 ∷ 10 ∷ 0 ∷ 13 ∷ 10 ∷ 81 ∷ 85 ∷ 73 ∷ 84 ∷ 10 ∷ []

-- the version and the command: the thirteenth byte
abbrev pub command_in : List ℕ → ℕ
command_in block = slice_index block 12

-- the family and the protocol: the fourteenth
abbrev pub family_in : List ℕ → ℕ
family_in block = slice_index block 13

-- how many bytes the block has in all, as the next two say
abbrev pub block_length : List ℕ → ℕ
block_length block = 16 + 256 * slice_index block 14 + slice_index block 15

-- version 2, and the proxy speaks for itself
abbrev pub local : ℕ
local = 0x20

-- version 2, and it hands on a connection
abbrev pub handed_on : ℕ
handed_on = 0x21

-- TCP over IPv4, and over IPv6
abbrev pub tcp4 : ℕ
tcp4 = 0x11

abbrev pub tcp6 : ℕ
tcp6 = 0x21

-- how many bytes it has at least, with the addresses of its family
abbrev pub least_length : ℕ → ℕ
least_length family =
    if family == tcp4 then 28 else if family == tcp6 then 52 else 16

-- one of four families, one of three protocols, and room for their addresses
abbrev pub is_family : ℕ → ℕ → Bool
is_family family size =
    nat_le family 63 && nat_le (family % 16) 2 && nat_le (least_length family) size

-- one of two commands, and a family where it hands on; and no longer than a header is
abbrev pub is_valid : List ℕ → Bool
is_valid block =
    nat_le (block_length block) 536
    && (if command_in block == handed_on then is_family (family_in block) (block_length block)
    else command_in block == local)

-- whether addresses of TCP stand in it
abbrev pub has_peer : List ℕ → Bool
has_peer block =
    if command_in block == handed_on then
    (if family_in block == tcp4 then true else family_in block == tcp6)
    else false

-- Who is behind the proxy: the source's address and port, high bytes first. Of a connection of the
-- proxy's own, and of another protocol, nobody is named.
abbrev pub NamesInBlock : List ℕ → Option SocketAddr → Type 0
NamesInBlock block None = has_peer block ≡ false
NamesInBlock block (Some (V4 peer)) =
    (command_in block ≡ handed_on) × (family_in block ≡ tcp4)
    × (ipv4_octets (v4_ip peer) ≡ slice_range block 16 20)
    × (v4_port peer ≡ 256 * slice_index block 24 + slice_index block 25)
NamesInBlock block (Some (V6 peer)) =
    (command_in block ≡ handed_on) × (family_in block ≡ tcp6)
    × (ipv6_segments (v6_ip peer) ≡ segments_of (slice_range block 16 32))
    × (v6_port peer ≡ 256 * slice_index block 48 + slice_index block 49)

-- what stands at the front of bytes that begin as the signature does
abbrev pub IsBlockFront : List ℕ → Header → Type 0
IsBlockFront bytes Partial =
    (length bytes < 16) ⊎ ((is_valid bytes ≡ true) × (length bytes < block_length bytes))
IsBlockFront bytes (Whole n peer) =
    (n ≡ block_length bytes) × (n ≤ length bytes) × (is_valid bytes ≡ true)
    × NamesInBlock bytes peer
IsBlockFront bytes Missing = (16 ≤ length bytes) × (is_valid bytes ≡ false)
