-- The later half of the ABIs, of which any other text is `C`.
use Rattle.std.specs.Prelude.{ℕ, List, if◌then◌else◌, codes, bytes_eq}
use Rattle.hir_store.specs.declared.type_ref.ExternAbi.{ExternAbi}
use Rattle.hir_store.specs.declared.type_ref.ExternAbi.TheVariants as abi

abbrev pub abi_later : List ℕ → ExternAbi
abi_later t =
    if bytes_eq t (codes "vectorcall") then abi.Vectorcall else
    (if bytes_eq t (codes "thiscall") then abi.Thiscall else
    (if bytes_eq t (codes "aapcs") then abi.Aapcs else
    (if bytes_eq t (codes "win64") then abi.Win64 else
    (if bytes_eq t (codes "sysv64") then abi.Sysv64 else
    (if bytes_eq t (codes "efiapi") then abi.Efiapi else
    (if bytes_eq t (codes "rust-call") then abi.RustCall else
    abi.C))))))
