-- What the definitions give at names and paths that show each of their cases. Each row is proved by computing it.
use Rattle.std.proofs.Common.{◌≡◌, refl, [], ◌∷◌, ◌++◌}
use Rattle.std.specs.Prelude.{codes}
use Rattle.puffin_scopes.specs.Names.Files.{short_file, ellipsis}
use Rattle.puffin_scopes.specs.Names.Functions.{clean, shorten}

-- ---- files

a_file_without_a_path : short_file [] ≡ []
a_file_without_a_path = refl

a_file : short_file (codes "foo.rs") ≡ codes "foo.rs"
a_file = refl

a_file_of_a_registry :
    short_file (codes "/Users/emilk/.cargo/registry/src/github.com-1ecc6299db9ec823/tokio-1.24.1/src/runtime/runtime.rs")
    ≡ codes "tokio-1.24.1/" ++ (ellipsis ++ codes "/runtime.rs")
a_file_of_a_registry = refl

a_file_in_a_folder : short_file (codes "foo/bar.rs") ≡ codes "foo/bar.rs"
a_file_in_a_folder = refl

a_file_in_two_folders : short_file (codes "foo/bar/baz.rs") ≡ codes "bar/baz.rs"
a_file_in_two_folders = refl

a_main_file : short_file (codes "crates/cratename/src/main.rs") ≡ codes "cratename/src/main.rs"
a_main_file = refl

-- `crates\cratename\src\main.rs`: each backslash is written as its byte, 92
backslashes :
    short_file (codes "crates" ++ (92 ∷ codes "cratename" ++ (92 ∷ codes "src" ++ (92 ∷ codes "main.rs"))))
    ≡ codes "cratename/src/main.rs"
backslashes = refl

a_module_s_lib :
    short_file (codes "crates/cratename/src/module/lib.rs")
    ≡ codes "cratename/" ++ (ellipsis ++ codes "/module/lib.rs")
a_module_s_lib = refl

a_file_in_examples : short_file (codes "workspace/cratename/examples/hello_world.rs") ≡ codes "examples/hello_world.rs"
a_file_in_examples = refl

a_file_of_the_compiler_s_library :
    short_file (codes "/rustc/d5a82bbd26e1ad8b7401f6a718a9c57c96905483/library/core/src/ops/function.rs")
    ≡ codes "core/" ++ (ellipsis ++ codes "/function.rs")
a_file_of_the_compiler_s_library = refl

src_is_the_first_folder : short_file (codes "src/a/b/c.rs") ≡ codes "src/" ++ (ellipsis ++ codes "/c.rs")
src_is_the_first_folder = refl

a_file_called_src : short_file (codes "a/b/src") ≡ codes "b/" ++ (ellipsis ++ codes "/src")
a_file_called_src = refl

-- ---- functions

no_name : clean [] ≡ []
no_name = refl

one_segment : clean (codes "foo::f") ≡ codes "foo"
one_segment = refl

two_segments : clean (codes "foo::bar::f") ≡ codes "foo::bar"
two_segments = refl

three_segments : clean (codes "foo::bar::baz::f") ≡ codes "bar::baz"
three_segments = refl

closures : clean (codes "a::b::c::{{closure}}::{{closure}}::f") ≡ codes "b::c"
closures = refl

a_generic_type :
    clean (codes "some::GenericThing<_, _>::function_name::f")
    ≡ codes "GenericThing<_, _>::function_name"
a_generic_type = refl

a_method_of_a_trait :
    clean (codes "<some::ConcreteType as some::bloody::Trait>::function_name::f")
    ≡ codes "<ConcreteType as Trait>::function_name"
a_method_of_a_trait = refl

a_name_of_another_kind : clean (codes "user scope") ≡ codes "user scope"
a_name_of_another_kind = refl

a_function : shorten (codes "foo::bar::baz::function_name") ≡ codes "baz::function_name"
a_function = refl

a_method :
    shorten (codes "<some::ConcreteType as some::Trait>::function_name")
    ≡ codes "<ConcreteType as Trait>::function_name"
a_method = refl
