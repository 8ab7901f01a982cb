use Rattle.store_json.proofs.words.abi_word.Goals as goal

pub returns-in-Rust : goal.returns-in-Rust
returns-in-Rust c = rw c.in-Rust.is

pub returns-in-C : goal.returns-in-C
returns-in-C c = rw c.in-C.is

pub returns-in-CUnwind : goal.returns-in-CUnwind
returns-in-CUnwind c = rw c.in-CUnwind.is

pub returns-in-System : goal.returns-in-System
returns-in-System c = rw c.in-System.is

pub returns-in-SystemUnwind : goal.returns-in-SystemUnwind
returns-in-SystemUnwind c = rw c.in-SystemUnwind.is

pub returns-in-Cdecl : goal.returns-in-Cdecl
returns-in-Cdecl c = rw c.in-Cdecl.is

pub returns-in-Stdcall : goal.returns-in-Stdcall
returns-in-Stdcall c = rw c.in-Stdcall.is

pub returns-in-Fastcall : goal.returns-in-Fastcall
returns-in-Fastcall c = rw c.in-Fastcall.is

pub returns-in-Vectorcall : goal.returns-in-Vectorcall
returns-in-Vectorcall c = rw c.in-Vectorcall.is

pub returns-in-Thiscall : goal.returns-in-Thiscall
returns-in-Thiscall c = rw c.in-Thiscall.is

pub returns-in-Aapcs : goal.returns-in-Aapcs
returns-in-Aapcs c = rw c.in-Aapcs.is

pub returns-in-Win64 : goal.returns-in-Win64
returns-in-Win64 c = rw c.in-Win64.is

pub returns-in-Sysv64 : goal.returns-in-Sysv64
returns-in-Sysv64 c = rw c.in-Sysv64.is

pub returns-in-Efiapi : goal.returns-in-Efiapi
returns-in-Efiapi c = rw c.in-Efiapi.is

pub returns-in-RustCall : goal.returns-in-RustCall
returns-in-RustCall c = rw c.in-RustCall.is
