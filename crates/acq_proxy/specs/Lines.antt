-- Headers of version 1: a line of text (The PROXY protocol, 2.1).
use Rattle.std.specs.Prelude.{◌≡◌, ◌⊎◌, ◌+◌, ◌<◌, ◌≤◌, ◌++◌, ◌∷◌, ℕ, List, length, take}
use Rattle.std.specs.Prelude.{slice_index, codes, Option, Some, None}
use Rattle.std.specs.Net.Grammar.{IsIpText, IsNumber}
use Rattle.std.specs.Net.Socket.{socket_ip, socket_port}
use Rattle.std.specs.declared.net.ip_addr.IpAddr.{IpAddr}
use Rattle.std.specs.declared.net.ip_addr.IpAddr.TheVariants.{V4, V6}
use Rattle.std.specs.declared.net.socket_addr.SocketAddr.{SocketAddr}
use Rattle.acq_proxy.specs.declared.header.Header.{Header}
use Rattle.acq_proxy.specs.declared.header.Header.TheVariants.{Partial, Whole, Missing}

-- how a line begins
abbrev pub mark : List ℕ
mark = codes "PROXY "

-- what stands between two words
abbrev pub space : ℕ
space = 32

-- CR and LF stand there
abbrev pub EndsAt : List ℕ → ℕ → Type 0
EndsAt bytes at = (slice_index bytes at ≡ 13) × (slice_index bytes (at + 1) ≡ 10)

-- no line of 107 bytes or fewer ends before this place
abbrev pub EndsNowhere : List ℕ → ℕ → Type 0
EndsNowhere bytes place = (at : ℕ) → at < place → ¬ EndsAt bytes at

-- the first CR and LF, which stand within the first 107 bytes
pub record IsLineEnd (bytes : List ℕ) (at : ℕ) : Type 0 where
  pub there : at + 2 ≤ length bytes
  pub short : at + 2 ≤ 107
  pub ends : EndsAt bytes at
  pub first : EndsNowhere bytes at

-- none stand there
abbrev pub HasNoLineEnd : List ℕ → Type 0
HasNoLineEnd bytes =
    (at : ℕ) → at + 2 ≤ length bytes → at + 2 ≤ 107 → ¬ EndsAt bytes at

-- the word for an address's family
abbrev pub family_of : IpAddr → List ℕ
family_of (V4 ip) = codes "TCP4"
family_of (V6 ip) = codes "TCP6"

-- a port's number, without zeros in front
abbrev pub IsPortWord : List ℕ → ℕ → Type 0
IsPortWord word port = IsNumber 10 word port × (slice_index word 0 ≡ 48 → length word ≡ 1)

-- who is behind the proxy: the family, the two addresses and the two ports, with a space between
-- two of them
pub record NamesPeer (line : List ℕ) (peer : SocketAddr) : Type 0 where
  pub source : List ℕ
  pub destination : List ℕ
  pub port : List ℕ
  pub other_port : List ℕ
  pub spelled : line ≡ codes "PROXY" ++ space ∷ (family_of (socket_ip peer) ++ space ∷ (source
      ++ space ∷ (destination ++ space ∷ (port ++ space ∷ other_port))))
  pub address : IsIpText source (socket_ip peer)
  pub of_port : IsPortWord port (socket_port peer)

-- or nobody, whatever stands behind the word
abbrev pub NamesInLine : List ℕ → Option SocketAddr → Type 0
NamesInLine line None = take 13 line ≡ codes "PROXY UNKNOWN"
NamesInLine line (Some peer) = NamesPeer line peer

-- what stands at the front of bytes that begin as a line does
abbrev pub IsLineFront : List ℕ → Header → Type 0
IsLineFront bytes Partial = HasNoLineEnd bytes × (length bytes < 107)
IsLineFront bytes (Whole n peer) =
    (at : ℕ) × IsLineEnd bytes at × (n ≡ at + 2) × NamesInLine (take at bytes) peer
IsLineFront bytes Missing =
    (HasNoLineEnd bytes × (107 ≤ length bytes)) ⊎ ((at : ℕ) × IsLineEnd bytes at)
